-- The arrays of an image lent to a function, as they are at the call and as it leaves them (ours): what contracts say of them.
use Rattle.std.specs.Prelude.{◌≡◌, ℕ, ℤ, length}
use Rattle.terms.specs.Lent.{Lent}
use Rattle.image.specs.Image.{Log, log, Columns, columns, Image, image}

abbrev pub log_before : Lent ℕ → Lent ℕ → Lent ℕ → Log
log_before c t n = log c.entry.now t.entry.now n.entry.now

abbrev pub log_after : Lent ℕ → Lent ℕ → Lent ℕ → Log
log_after c t n = log c.exit.now t.exit.now n.exit.now

abbrev pub columns_before : Lent ℕ → Lent ℤ → Lent ℕ → Lent ℕ → Columns
columns_before k w p o = columns k.entry.now w.entry.now p.entry.now o.entry.now

abbrev pub columns_after : Lent ℕ → Lent ℤ → Lent ℕ → Lent ℕ → Columns
columns_after k w p o = columns k.exit.now w.exit.now p.exit.now o.exit.now

abbrev pub before : Lent ℕ → Lent ℕ → Lent ℕ → Lent ℕ → Lent ℤ → Lent ℕ → Lent ℕ → Image
before c t n k w p o = image (log_before c t n) (columns_before k w p o)

abbrev pub after : Lent ℕ → Lent ℕ → Lent ℕ → Lent ℕ → Lent ℤ → Lent ℕ → Lent ℕ → Image
after c t n k w p o = image (log_after c t n) (columns_after k w p o)

-- the lengths that arrays of their types have
pub record SizedLog (l : Log) : Type 0 where
  pub counts : length l.counts ≡ 4
  pub times : length l.times ≡ 32
  pub numbers : length l.numbers ≡ 32

pub record SizedColumns (c : Columns) : Type 0 where
  pub ticks : length c.ticks ≡ 200
  pub words : length c.words ≡ 200
  pub pins : length c.pins ≡ 200
  pub outputs : length c.outputs ≡ 200
