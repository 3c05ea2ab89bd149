-- The records of calls (RULES, section 6).
use Rattle.std.specs.Prelude.{ℕ, ◌+◌, ◌*◌, Option, Some, None, List, [], ◌∷◌, get_or}
use Rattle.image.specs.Bytes.{word_of}
use Rattle.machine.specs.Calls.{as_page, as_domain, call_of, unchecked_of, silent}
use Rattle.machine.specs.declared.record.Machine.{Machine}
use Rattle.machine.specs.declared.record.Answered.{Answered}
use Rattle.machine.specs.declared.record.Width.TheVariants.{One, Two}
use Rattle.machine.specs.declared.record.Call.{Call}
use Rattle.machine.specs.declared.record.Call.TheVariants.{Access, Grant, Revoke, SetMask, Enter, Return, Switch, StoreField, StoreContext, StoreMask, StoreMode, AskViolation}

-- RULES 6.5: what each kind makes of a record, from kind 0 on, which is no call; parts that are not named are ignored
abbrev pub kinds : (right a b : ℕ) → List (Option Call)
kinds right a b =
    None
    ∷ Some (Access One right (65536 * a + b))
    ∷ Some (Grant right (as_page a) (as_domain b))
    ∷ Some (Revoke right (as_page a) (as_domain b))
    ∷ Some (SetMask b)
    ∷ Some Enter
    ∷ Some Return
    ∷ Some (Switch b)
    ∷ Some (StoreField right (as_page a) b)
    ∷ Some (StoreContext b)
    ∷ Some (StoreMask b)
    ∷ Some (StoreMode b)
    ∷ Some AskViolation
    ∷ Some (Access Two right (65536 * a + b))
    ∷ []

-- RULES 6.6: a kind past the last is no call either
unfoldable pub call_of_kind : (kind right a b : ℕ) → Option Call
call_of_kind kind right a b = get_or (kinds right a b) kind None

-- RULES 6.4, 6.9: a record for every 6 bytes; fewer bytes are a remainder, and no record
unfoldable pub calls_of : List ℕ → List (Option Call)
calls_of [] = []
calls_of (k ∷ []) = []
calls_of (k ∷ r ∷ []) = []
calls_of (k ∷ r ∷ a ∷ []) = []
calls_of (k ∷ r ∷ a ∷ a' ∷ []) = []
calls_of (k ∷ r ∷ a ∷ a' ∷ b ∷ []) = []
calls_of (k ∷ r ∷ a ∷ a' ∷ b ∷ b' ∷ rest) = call_of_kind k r (word_of a a') (word_of b b') ∷ calls_of rest

-- RULES 6.6: what is no call is answered by 18, on any machine, which stays as it is
unfoldable pub step_by : (Machine → Call → Answered) → Machine → Option Call → Answered
step_by made m (Some call) = made m call
step_by made m None = silent 18 m

-- RULES 6.7: a step by the calls by value, whose answers are those of a run
abbrev pub step_of : Machine → Option Call → Answered
step_of = step_by call_of

-- RULES 6.7: a step without the check for 1, which the machine of a run never meets
abbrev pub unchecked_step_of : Machine → Option Call → Answered
unchecked_step_of = step_by unchecked_of
