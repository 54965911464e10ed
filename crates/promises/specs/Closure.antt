-- A state that a call hands back passes the state check if the given one did; so from fresh, with states handed on, no call is refused with 5.
use Rattle.std.specs.Prelude.{true, List, ◌≡◌, ℕ}
use Rattle.image.specs.declared.State.{State}
use Rattle.image.specs.State.{fresh_state, good_state}
use Rattle.scanning.specs.Scan.{Inputs}
use Rattle.terms.specs.Refusals.{bad_state}
use Rattle.calls.specs.Calls.{scan_of, take_of}
use Rattle.promises.specs.History.{Call, refusal_of, state_after}

pub record Closure : Type 0 where
  pub fresh : good_state fresh_state ≡ true
  pub scan : (bytes : List ℕ) (x : Inputs) (s : State) → good_state s ≡ true → good_state (scan_of bytes x s).state ≡ true
  pub take : (s : State) → good_state s ≡ true → good_state (take_of s).state ≡ true
  pub never : (bytes : List ℕ) (cs : List Call) (c : Call) → refusal_of bytes (state_after bytes fresh_state cs) c ≡ bad_state → ⊥
