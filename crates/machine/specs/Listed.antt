-- The numbers that a call may answer (RULES, section 9), which the first term asks for.
use Rattle.std.specs.Prelude.{ℕ, Bool, false, ◌||◌, List, [], ◌∷◌, eqb}
use Rattle.machine.specs.declared.record.Call.{Call}
use Rattle.machine.specs.declared.record.Call.TheVariants.{Access, Grant, Revoke, SetMask, Enter, Return, Switch, StoreField, StoreContext, StoreMask, StoreMode, AskViolation}

-- a number stands in a list
abbrev pub is_in : ℕ → List ℕ → Bool
is_in n [] = false
is_in n (x ∷ rest) = eqb n x || is_in n rest

-- RULES 9.1: the numbers of each call's own conditions, in their order
abbrev pub own_numbers : Call → List ℕ
own_numbers (Access width right address) = 2 ∷ 3 ∷ 8 ∷ 9 ∷ []
own_numbers (Grant right page s) = 2 ∷ 4 ∷ 5 ∷ 6 ∷ 8 ∷ 11 ∷ 12 ∷ []
own_numbers (Revoke right page s) = 2 ∷ 4 ∷ 5 ∷ 6 ∷ 8 ∷ 11 ∷ 12 ∷ []
own_numbers (SetMask bits) = 6 ∷ 8 ∷ 19 ∷ []
own_numbers Enter = 13 ∷ []
own_numbers Return = 7 ∷ 14 ∷ []
own_numbers (Switch program) = 7 ∷ 15 ∷ 16 ∷ []
own_numbers (StoreField right page bits) = 2 ∷ 4 ∷ 7 ∷ []
own_numbers (StoreContext bits) = 7 ∷ []
own_numbers (StoreMask bits) = 7 ∷ []
own_numbers (StoreMode mode) = 17 ∷ 7 ∷ []
own_numbers AskViolation = 7 ∷ []

-- RULES 9.1: all numbers of a call by value: 0 and 1 beside its own
abbrev pub listed : Call → List ℕ
listed call = 0 ∷ 1 ∷ own_numbers call

-- RULES 2.4, 2.8: the numbers of calls on a sound machine, and of calls without the check for 1 on any. 1 is for calls by value
-- on machines that are not sound, and 10 is given by nothing (9.2).
abbrev pub sound_numbers : List ℕ
sound_numbers =
    0 ∷ 2 ∷ 3 ∷ 4 ∷ 5 ∷ 6 ∷ 7 ∷ 8 ∷ 9 ∷ 11 ∷ 12 ∷ 13 ∷ 14 ∷ 15 ∷ 16 ∷ 17 ∷ 19 ∷ []
