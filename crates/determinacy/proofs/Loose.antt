-- A contract that is not determined: of the kit's `io::buffer`, two buffers of that length that differ.
use Prim.Native.Nat.{ℕ}
use Rattle.std.proofs.Common.{◌≡◌, List, sym, ap, ◌∙◌, get_or, arith}
use lib.ListN.{replicate, length-replicate, get_or-replicate}
use seplogic.Ra.Ura.{Ura}
use seplogic.Bi.Basic.{impl, impl_elim}
use base.Logic.{SProp, ent, emp, id⊢, via, pcs}
use contract.Monad.{fact, fact_i, fact_mono, conj, conj_i}
use types.Logic.{Logic}
use Rattle.determinacy.specs.Determinacy.{learnt, Determined}
use Rattle.determinacy.proofs.Facts.{implied}
use Rattle.io.specs.contracts.buffer as io_buffer

abbrev pub filled : ℕ → List ℕ
filled = replicate 4096

pub differ : filled 0 ≡ filled 1 → ⊥
differ e =
    let first : (b : ℕ) → get_or (filled b) 0 0 ≡ b = λ b. get_or-replicate 4096 0 b 0 (omega arith) in
    let z : ◌≡◌ {A = ℕ} 0 1 = sym (first 0) ∙ ap (λ (l : List ℕ). get_or l 0 0) e ∙ first 1 in
    omega arith

module _ {M : Type 1} {𝓤 : Ura M} (𝓛 : Logic 𝓤) where
  abbrev says : ℕ → SProp 𝓤
  says b = learnt 𝓛 io_buffer.ended (io_buffer.clauses 𝓛) tt tt tt (filled b) tt

  said : (P : SProp 𝓤) (b : ℕ) → ent 𝓤 P (says b)
  said P b = fact_i 𝓤 _ P (length-replicate 4096 b)

  abbrev D : SProp 𝓤
  D = Determined 𝓛 io_buffer.ended (io_buffer.clauses 𝓛)

  abbrev Both : SProp 𝓤
  Both = conj 𝓤 (says 0) (says 1)

  equal : ent 𝓤 D (impl (pcs 𝓤) Both (fact 𝓤 (filled 0 ≡ filled 1)))
  equal = record { apply = λ m d. d tt tt tt (filled 0) (filled 1) tt tt }

  pub loose : ent 𝓤 (emp 𝓤) (impl (pcs 𝓤) D (fact 𝓤 ⊥))
  loose =
      implied 𝓤 D (fact 𝓤 ⊥)
      (via 𝓤 (fact 𝓤 (filled 0 ≡ filled 1))
      (via 𝓤 (conj 𝓤 D Both) (conj_i 𝓤 D Both (id⊢ 𝓤 D) (conj_i 𝓤 (says 0) (says 1) (said D 0) (said D 1))) (impl_elim (pcs 𝓤) Both equal))
      (fact_mono 𝓤 (filled 0 ≡ filled 1) ⊥ differ))
