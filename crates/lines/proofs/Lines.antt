-- No line is longer than the longest: a number takes at most twenty bytes. Assumes nothing.
use Prim.Native.Nat.{ℕ, ◌≤◌}
use native.Mathlib.Omega.{arith}
use lib.ListN.{length, length-append}
use Rattle.text.proofs.Texts.{digits_short}
use Rattle.lines.specs.Lines.{line_bytes, line_with, refused_line}

pub line_short : (time steps held missed : ℕ) → length (line_with time steps held missed) ≤ line_bytes
unfolding line_with
line_short time steps held missed =
    simp length-append (omega (arith, digits_short 20 time, digits_short 20 steps, digits_short 20 held, digits_short 20 missed))

pub refused_short : (n at : ℕ) → length (refused_line n at) ≤ line_bytes
unfolding refused_line
refused_short n at = simp length-append (omega (arith, digits_short 20 n, digits_short 20 at))
