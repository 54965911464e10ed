-- Buffers that are as long have as much room. Assumes nothing.
use Prim.Native.Nat.{ℕ}
use mathlib.Core.Path.{◌≡◌}
use mathlib.Core.List.{List}
use native.Mathlib.Omega.{arith}
use lib.ListN.{length}
use Rattle.telling.specs.Answers.{Roomy}

pub roomy_too : (b d l m : List ℕ) → length d ≡ length b → length m ≡ length l → Roomy b l → Roomy d m
roomy_too b d l m short long roomy = omega (arith, short, long, roomy)
