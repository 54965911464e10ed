-- A program tried on a copy of its own places, against its acceptance and its scan: it passes the trial if and only if it is accepted, and then answer
-- and columns are those of its scan. Assumes nothing.
use Prim.Native.Nat.{ℕ, ◌≤◌}
use mathlib.Core.Path.{◌≡◌, refl, sym, ap, ◌∙◌}
use mathlib.Core.Bool.{Bool, true, false}
use mathlib.Core.List.{List}
use native.Mathlib.Omega.{arith}
use lib.Dec.{eqb}
use lib.ListN.{length, take}
use borrow.Author.Tests.{ne_eqb}
use Rattle.terms.proofs.Choice.{both}
use Rattle.wire.specs.Number.{number_at}
use Rattle.wire.specs.Number.{Num, Got, Bad, Cut}
use Rattle.wire.specs.Reading.{Read, got, fault, and_then}
use Rattle.numbers.specs.Blocks.{Bit, Block}
use Rattle.numbers.specs.Types.{block_count, said_by, content_of}
use Rattle.numbers.specs.Reading.{Marks, marked, judged, typed_at}
use Rattle.numbers.proofs.Typed.{typed_below}
use Rattle.program.specs.Program.{Program, blocks_at, alarms_at, after_count, program_at}
use Rattle.program.specs.Acceptance.{every_block, accepted}
use Rattle.program.specs.References.{all_pass, all_there}
use Rattle.program.specs.Trial.{first_blocks, passes_trial, trial_passes}
use Rattle.program.proofs.Blocks.{blocks_long}
use Rattle.program.proofs.Faults.{program_fault}
use Rattle.program.proofs.Fitting.{alarms_fit}
use Rattle.program.proofs.Trial.{trial, read_by_any, accepted_by_lem}
use Rattle.place.specs.declared.Place.{Place}
use Rattle.image.specs.Image.{Columns, places_in}
use Rattle.image.specs.Lent.{SizedColumns}
use Rattle.turns.specs.Arrays.{turns_to, turn_steps, blocks_while}
use Rattle.turns.proofs.Blocks.{while_all}
use Rattle.std.specs.Prelude.{None}
use Rattle.scanning.specs.Scan.{Inputs, scan_to, steps_to}
use Rattle.scanning.specs.Loading.{loaded, loaded_first, tried_on, after_trial}
use Rattle.scanning.specs.Run.{run_of, after_run}
use Rattle.scanning.proofs.Loaded.{alarms_loaded, turns_loaded, steps_loaded}
use Rattle.scanning.proofs.Own.{scans_alike, steps_alike, alarms_alike}
use Rattle.scanning.proofs.FirstPlaces.{first_places, first_alike, places_long, first_loaded, stored_alike}

-- the block count is read with any marks alike
count_any : (k j : Marks) (s : List ℕ) → typed_at k block_count 0 s 0 ≡ typed_at j block_count 0 s 0
unfolding typed_at marked said_by content_of
count_any k j s = go (number_at s 0)
  where
    go : (m : Num) → judged k block_count 0 0 m ≡ judged j block_count 0 0 m
    go Bad = refl
    go Cut = refl
    go (Got v next) = refl

-- the parts of a program that was read
data Parts (k : Marks) (n : ℕ) (s : List ℕ) (at : ℕ) (p : Program) : Type 0 where
  parts : (m end : ℕ) → blocks_at k n s at ≡ got p.blocks m → alarms_at k s m ≡ got p.alarms end → Parts k n s at p

parts_of : (k : Marks) (n : ℕ) (s : List ℕ) (at : ℕ) {p : Program} {end : ℕ} → after_count k n s at ≡ got p end → Parts k n s at p
parts_of k n s at {p} {end} h = by_blocks (blocks_at k n s at) refl h
  where
    by_alarms : (bs : List Block) (m : ℕ) → blocks_at k n s at ≡ got bs m → (r : Read (List Bit)) → alarms_at k s m ≡ r
        → ◌≡◌ {A = Read Program} (and_then r (λ rs z. got (record { blocks = bs; alarms = rs }) z)) (got p end) → Parts k n s at p
    by_alarms bs m b (got rs z) q w =
        let c : record { blocks = bs; alarms = rs } ≡ p = cc in
        parts m z (rw (ap (λ (y : Program). y.blocks) c) at b) (rw (ap (λ (y : Program). y.alarms) c) at q)
    by_alarms bs m b (fault y z) q w = let u : ◌≡◌ {A = ℕ} 0 1 = cc in absurd (omega arith)

    by_blocks : (r : Read (List Block)) → blocks_at k n s at ≡ r
        → ◌≡◌ {A = Read Program} (and_then r (λ bs at. and_then (alarms_at k s at) (λ rs z. got (record { blocks = bs; alarms = rs }) z))) (got p end)
        → Parts k n s at p
    by_blocks (got bs m) b w = by_alarms bs m b (alarms_at k s m) refl w
    by_blocks (fault y z) b w = let u : ◌≡◌ {A = ℕ} 0 1 = cc in absurd (omega arith)

module _ (s : List ℕ) (x : Inputs) (c : Columns) where
  -- answer and columns of a run
  pub record Runs (r : _) (d : Columns) : Type 0 where
    pub answer : r ≡ run_of s x (places_in c)
    pub columns : d ≡ after_run s x c

  not_run : eqb (accepted s).refusal 0 ≡ false → Runs None c
  unfolding run_of after_run
  not_run e = record { answer = rw e; columns = rw e }

  -- a program without a block count
  pub no_count : {y z : ℕ} → typed_at every_block block_count 0 s 0 ≡ fault y z → Runs None c
  unfolding accepted program_at
  no_count {y} {z} h =
      let f : program_at every_block s ≡ fault y z = rw h in
      let real = program_fault every_block s f in
      not_run (rw (f, ne_eqb y 0 (λ q. omega arith)))

  module _ (eight : length x.words ≡ 8) (sized : SizedColumns c) {n at : ℕ} (count : typed_at every_block block_count 0 s 0 ≡ got n at) where
    abbrev ps : List Place
    ps = places_in c

    read : program_at (first_blocks n) s ≡ after_count (first_blocks n) n s at
    unfolding program_at
    read = rw (count_any (first_blocks n) every_block s ∙ count)

    verdict : (r : Read Program) → after_count (first_blocks n) n s at ≡ r → eqb (accepted s).refusal 0 ≡ trial_passes r
    verdict r h = trial s count ∙ ap trial_passes (read ∙ h)

    -- a program that passes its trial
    passed : (p : Program) (end : ℕ) → after_count (first_blocks n) n s at ≡ got p end → passes_trial p.blocks ≡ true
        → Parts (first_blocks n) n s at p → Runs (tried_on n s at x c) (after_trial n s at x c)
    unfolding run_of after_run trial_passes all_there all_pass
    passed p end h a (parts m z b q) =
        let k : Marks = first_blocks n in
        let bs : List Block = p.blocks in
        let cs : List Block = blocks_while k n s at in
        let w : cs ≡ bs = while_all k n s at b in
        let long : length bs ≡ n = blocks_long k n s at b in
        let few : n ≤ 200 = omega (arith, typed_below every_block block_count 0 s 0 count) in
        let fs : List Place = first_places n ps in
        let t : turns_to x.elapsed bs (length bs) (loaded x fs) ≡ loaded x (scan_to x bs (length bs) fs) =
        rw w at (turns_loaded x eight k n s at fs (length cs) (omega arith)) in
        let u : turn_steps x.elapsed bs (length bs) (loaded x fs) ≡ steps_to x bs (length bs) fs =
        rw w at (steps_loaded x eight k n s at fs (length cs) (omega arith)) in
        let good : eqb (accepted s).refusal 0 ≡ true = verdict (got p end) h ∙ a in
        let whole : program_at every_block s ≡ got p end = read_by_any k s (read ∙ h) in
        let there = both _ _ (both (all_there p) _ (sym (accepted_by_lem s p whole) ∙ good)).0 in
        let e : take (length bs) fs ≡ take (length bs) ps = rw long (first_alike n ps (rw (places_long x n c) few)) in
        let after = scans_alike x bs there.0 fs ps e (length bs) (omega arith) in
        let f : loaded_first n x c ≡ loaded x fs = first_loaded x n c sized in
        record {
          answer =
              rw (
                f,
                h,
                a,
                t,
                u,
                good,
                whole,
                alarms_loaded x (scan_to x bs (length bs) fs) p.alarms (alarms_fit k s m q),
                steps_alike x bs there.0 fs ps e (length bs) (omega arith),
                alarms_alike x bs _ _ after p.alarms there.1,
              );
          columns = rw (f, h, a, w, t, good, whole, long) (stored_alike x n c eight _ _ (rw long at after));
        }

    pub counted : Runs (tried_on n s at x c) (after_trial n s at x c)
    unfolding trial_passes
    counted = by_program (after_count (first_blocks n) n s at) refl
      where
        by_test : (p : Program) (end : ℕ) → after_count (first_blocks n) n s at ≡ got p end
            → (b : Bool) → passes_trial p.blocks ≡ b → Runs (tried_on n s at x c) (after_trial n s at x c)
        by_test p end h true a = passed p end h a (parts_of (first_blocks n) n s at h)
        by_test p end h false a = rw (h, a) (not_run (verdict (got p end) h ∙ a))

        by_program : (r : Read Program) → after_count (first_blocks n) n s at ≡ r → Runs (tried_on n s at x c) (after_trial n s at x c)
        by_program (got p end) h = by_test p end h (passes_trial p.blocks) refl
        by_program (fault y z) h = rw h (not_run (verdict (fault y z) h))
