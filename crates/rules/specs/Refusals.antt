-- How a call refuses (RULES, section 2).
use Rattle.std.specs.Prelude.{ℕ, Bool, true, false, List, [], ◌∷◌, Result, Ok, Err}
use Rattle.rules.specs.declared.refusals.Refusal.{Refusal}
use Rattle.rules.specs.declared.refusals.Refusal.TheVariants.{Unsound, NoSuchRight, OutsideMemory, NoSuchPage, NoSuchDomain, PrivilegedMode, UserMode, InterruptPending, Violation, NotPrevailing, NotLower, StackFull, StackEmpty, DepthNotOne, NoSuchProgram, NoSuchMode, NoSuchCall, EmptyMask, WrongLength, WrongKinds, WrongShapeEntry, WrongShape, WrongBodies, WrongModes, NotAtRest, ShortBuffer, WrongCount, NoSuchParent, Cycle, TooManyPairs, NoMask}

infix 20 ◌⇒◌
-- RULES 2.3: a condition, and the number that a call is refused with where it is met: `condition ⇒ number`
pub data Check : Type 0 where
  ◌⇒◌ : Bool → ℕ → Check

module _ {A : Type 0} where
  -- the first of two values where a condition is met, else the second
  abbrev pub pick : Bool → A → A → A
  pick true a b = a
  pick false a b = b

-- RULES 2.3, 5.8: the number of the first condition that is met, and 0 where none is
abbrev pub first : List Check → ℕ
first [] = 0
first ((met ⇒ number) ∷ rest) = pick met number (first rest)

-- RULES 9.1: the number of each refusal
abbrev pub refusal_number : Refusal → ℕ
refusal_number Unsound = 1
refusal_number NoSuchRight = 2
refusal_number OutsideMemory = 3
refusal_number NoSuchPage = 4
refusal_number NoSuchDomain = 5
refusal_number PrivilegedMode = 6
refusal_number UserMode = 7
refusal_number InterruptPending = 8
refusal_number Violation = 9
refusal_number NotPrevailing = 11
refusal_number NotLower = 12
refusal_number StackFull = 13
refusal_number StackEmpty = 14
refusal_number DepthNotOne = 15
refusal_number NoSuchProgram = 16
refusal_number NoSuchMode = 17
refusal_number NoSuchCall = 18
refusal_number EmptyMask = 19
refusal_number WrongLength = 20
refusal_number WrongKinds = 21
refusal_number WrongShapeEntry = 22
refusal_number WrongShape = 23
refusal_number WrongBodies = 24
refusal_number WrongModes = 25
refusal_number NotAtRest = 26
refusal_number ShortBuffer = 27
refusal_number WrongCount = 30
refusal_number NoSuchParent = 31
refusal_number Cycle = 32
refusal_number TooManyPairs = 33
refusal_number NoMask = 34

module _ {A : Type 0} where
  -- RULES 2.3: the number of an outcome: 0 where nothing refuses it
  abbrev pub outcome_number : Result A Refusal → ℕ
  outcome_number (Ok given) = 0
  outcome_number (Err refusal) = refusal_number refusal

  -- what an outcome gives, or what stands for that where it is refused
  abbrev pub given_or : A → Result A Refusal → A
  given_or other (Ok given) = given
  given_or other (Err refusal) = other
