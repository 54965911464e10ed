-- Request L4: whether bytes stand in a text at a place, as the code tests it (ours).
use Rattle.std.specs.Prelude.{ℕ, ◌+◌, Bool, true, ◌&&◌, List, [], ◌∷◌, ltb, eqb, length}
use Rattle.wire.specs.Number.{byte_at}

unfoldable pub stands_at : List ℕ → List ℕ → ℕ → Bool
stands_at [] s at = true
stands_at (b ∷ l) s at = (ltb at (length s) && eqb (byte_at s at) b) && stands_at l s (at + 1)
