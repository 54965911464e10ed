-- What is shown of contracts' clauses, in the logic: facts under ∧ give a fact, and a contract is determined where any two answers are equal. Assumes nothing.
use Rattle.std.proofs.Common.{◌≡◌}
use seplogic.Ra.Ura.{Ura}
use seplogic.Bi.Basic.{impl, impl_intro}
use base.Logic.{SProp, ent, emp, sep, all_i, via, pcs, fst∗, snd∗}
use contract.Lifetimes.{Lfts}
use contract.Monad.{fact, fact_mono, fact_use, conj, conj_l, conj_r}
use types.Logic.{Logic}
use denote.Triple.Clauses.{Ended, AtExit}
use denote.Triple.Entry.{Args, Res}
use Rattle.determinacy.specs.Determinacy.{Contract, Ghost, learnt, Determined, DeterminedWith}

module _ {M : Type 1} (𝓤 : Ura M) where
  -- one fact of each answer
  pub two : (P Q R : Type 0) → (P → Q → R) → ent 𝓤 (conj 𝓤 (fact 𝓤 P) (fact 𝓤 Q)) (fact 𝓤 R)
  two P Q R f =
      fact_use 𝓤 P (conj_l 𝓤 (fact 𝓤 P) (fact 𝓤 Q)) (λ p. via 𝓤 (fact 𝓤 Q) (conj_r 𝓤 (fact 𝓤 P) (fact 𝓤 Q)) (fact_mono 𝓤 Q R (f p)))

  -- two facts of each answer
  pub four :
      (P P' Q Q' R : Type 0) → (P → P' → Q → Q' → R) →
      ent 𝓤 (conj 𝓤 (sep 𝓤 (fact 𝓤 P) (fact 𝓤 P')) (sep 𝓤 (fact 𝓤 Q) (fact 𝓤 Q'))) (fact 𝓤 R)
  four P P' Q Q' R f =
      let A : SProp 𝓤 = sep 𝓤 (fact 𝓤 P) (fact 𝓤 P') in
      let B : SProp 𝓤 = sep 𝓤 (fact 𝓤 Q) (fact 𝓤 Q') in
      fact_use 𝓤 P (via 𝓤 A (conj_l 𝓤 A B) (fst∗ 𝓤 (fact 𝓤 P) (fact 𝓤 P')))
      (λ p. fact_use 𝓤 P' (via 𝓤 A (conj_l 𝓤 A B) (snd∗ 𝓤 (fact 𝓤 P) (fact 𝓤 P')))
      (λ p'. fact_use 𝓤 Q (via 𝓤 B (conj_r 𝓤 A B) (fst∗ 𝓤 (fact 𝓤 Q) (fact 𝓤 Q')))
      (λ q. via 𝓤 B (conj_r 𝓤 A B) (via 𝓤 (fact 𝓤 Q') (snd∗ 𝓤 (fact 𝓤 Q) (fact 𝓤 Q')) (fact_mono 𝓤 Q' R (f p p' q))))))

  pub implied : (A B : SProp 𝓤) → ent 𝓤 A B → ent 𝓤 (emp 𝓤) (impl (pcs 𝓤) A B)
  implied A B h = impl_intro (pcs 𝓤) A (via 𝓤 A (conj_r 𝓤 (emp 𝓤) A) h)

module _ {M : Type 1} {𝓤 : Ura M} (𝓛 : Logic 𝓤) (T : Ended) (c : Contract 𝓛 T) where
  -- what is shown of any two answers of a contract
  abbrev pub OfTwo : ((κs : Lfts T.signature.lifetimes) → Res T.signature κs → Res T.signature κs → AtExit T κs → AtExit T κs → Type 0) → Type 1
  OfTwo same =
      (κs : Lfts T.signature.lifetimes) (a : Args T.signature κs) (g : Ghost 𝓛 T c κs a) (x y : Res T.signature κs) (u v : AtExit T κs) →
      ent 𝓤 (conj 𝓤 (learnt 𝓛 T c κs a g x u) (learnt 𝓛 T c κs a g y v)) (fact 𝓤 (same κs x y u v))

  pub determined : OfTwo (λ κs x y u v. x ≡ y) → ent 𝓤 (emp 𝓤) (Determined 𝓛 T c)
  determined h =
      all_i 𝓤 _ (λ κs. all_i 𝓤 _ (λ a. all_i 𝓤 _ (λ g. all_i 𝓤 _ (λ x. all_i 𝓤 _ (λ y. all_i 𝓤 _ (λ u. all_i 𝓤 _ (λ v.
      implied 𝓤 _ _ (h κs a g x y u v))))))))

  pub determined_with : {L : Type 0} (lent : (κs : Lfts T.signature.lifetimes) → AtExit T κs → L) →
      OfTwo (λ κs x y u v. (x ≡ y) × (lent κs u ≡ lent κs v)) → ent 𝓤 (emp 𝓤) (DeterminedWith 𝓛 T c lent)
  determined_with lent h =
      all_i 𝓤 _ (λ κs. all_i 𝓤 _ (λ a. all_i 𝓤 _ (λ g. all_i 𝓤 _ (λ x. all_i 𝓤 _ (λ y. all_i 𝓤 _ (λ u. all_i 𝓤 _ (λ v.
      implied 𝓤 _ _ (h κs a g x y u v))))))))
