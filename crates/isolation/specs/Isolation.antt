-- The third term, which the code calls the third demand (RULES 4.4 to 4.8, 10.3). `start` is the machine that the image loads to.
use Rattle.std.specs.Prelude.{ℕ, zero, suc, ◌≤◌, ◌<◌, ◌≡◌, ◌≢◌, true, false, List, [], ◌∷◌, ◌++◌, eqb, get_or, Some}
use Rattle.std.specs.Int.Bits.{bit_and}
use Rattle.rules.specs.Domains.{holds, prevailing}
use Rattle.rules.specs.Refusals.{pick}
use Rattle.machine.specs.Machine.{field_of, no_program}
use Rattle.machine.specs.Calls.{call_of}
use Rattle.machine.specs.declared.record.Machine.{Machine}
use Rattle.machine.specs.declared.record.Answered.{Answered}
use Rattle.machine.specs.declared.record.Report.{Report}
use Rattle.machine.specs.declared.record.Call.{Call}
use Rattle.image.specs.Bytes.{Bytes}
use Rattle.image.specs.Load.{load_of}
use Rattle.isolation.specs.Histories.{History, Made, Turn, TurnCalls, calls_of, turns_of}

-- RULES 4.2: each of these turns belongs to a program of the table
abbrev pub InTable : Machine → List Turn → Type 0
InTable start [] = Unit
InTable start (turn ∷ rest) = (turn.program < start.programs) × InTable start rest

-- RULES 4.5: the chosen program's turns, each as its calls, in the order of the history
abbrev pub taken_out : ℕ → List TurnCalls → List (List Call)
taken_out chosen [] = []
taken_out chosen (turn ∷ rest) = pick (eqb turn.program chosen) (turn.calls ∷ taken_out chosen rest) (taken_out chosen rest)

-- RULES 4.5, 4.6: what two histories have to be alike in; the opening turn counts where its program is the chosen one
abbrev pub own_turns : Machine → ℕ → History → List (List Call)
own_turns start chosen h = taken_out chosen (turns_of start h)

-- RULES 4.7, 4.8: a program's global context as the image has it
abbrev pub context_of : Machine → ℕ → ℕ
context_of start program = (get_or start.table program no_program).context

-- RULES 4.8: what a global context sees of the READ and the WRITE field of each page below a number
abbrev pub rights_below : ℕ → ℕ → Machine → List ℕ
rights_below zero context m = []
rights_below (suc page) context m =
    rights_below page context m ++ bit_and (field_of m 0 page) context ∷ bit_and (field_of m 1 page) context ∷ []

-- RULES 4.8: the same for every page of the machine
unfoldable pub rights_of : ℕ → Machine → List ℕ
rights_of context m = rights_below m.pages context m

-- RULES 4.8: what a call shows the chosen program: the number, the domain that is named or that there is none, and the rights that its global context sees
-- before and after the call
pub record Observation : Type 0 where
  pub number : ℕ
  pub report : Report
  pub before : List ℕ
  pub after : List ℕ

-- RULES 4.8: what a call on a machine shows, from its answer
abbrev pub observation : ℕ → Machine → Answered → Observation
observation context m answered =
    record {
      number = answered.number;
      report = answered.report;
      before = rights_of context m;
      after = rights_of context answered.machine;
    }

-- RULES 4.4, 4.5: each call is made on the machine given back before it, whether that one was refused or not; what the chosen program's calls
-- show is kept, entry, switch and return among them
unfoldable pub observed_from : ℕ → ℕ → Machine → List Made → List Observation
observed_from chosen context m [] = []
observed_from chosen context m (made ∷ rest) =
    let answered = call_of m made.call in
    let others = observed_from chosen context answered.machine rest in
    pick (eqb made.program chosen) (observation context m answered ∷ others) others

-- RULES 4.3, 4.4: what a whole history shows the chosen program, from the loaded machine on
unfoldable pub observed : Machine → ℕ → History → List Observation
observed start chosen h = observed_from chosen (context_of start chosen) start (calls_of (turns_of start h))

-- RULES 4.7: the premise, about the image alone. Where a domain prevails in a field and is another program's, the chosen program has none of
-- greater number, which is of lower level (1.4): so no grant or revocation that the other may make there names a domain of the chosen one.
unfoldable pub Apart : Machine → ℕ → Type 0
Apart start chosen =
    (other right page domain lower : ℕ)
    → other < start.programs → other ≢ chosen
    → right ≤ 1 → page < start.pages
    → prevailing (field_of start right page) ≡ Some domain
    → holds (context_of start other) domain ≡ true
    → domain < lower → holds (context_of start chosen) lower ≡ false

-- RULES 4.6, 4.8: any two histories that are alike for the chosen program show it the same; other turns may be any
unfoldable pub Isolated : Machine → ℕ → Type 0
Isolated start chosen =
    (one two : History)
    → InTable start one.turns → InTable start two.turns
    → own_turns start chosen one ≡ own_turns start chosen two
    → observed start chosen one ≡ observed start chosen two

-- RULES 4.8, 10.3: the promise, for every legal image, which is a string of bytes that loads (5.11), and every program of its table that
-- meets the premise
unfoldable pub ThirdDemand : Type 0
ThirdDemand =
    (image : List ℕ) (chosen : ℕ)
    → Bytes image → (load_of image).number ≡ 0
    → chosen < (load_of image).machine.programs
    → Apart (load_of image).machine chosen
    → Isolated (load_of image).machine chosen
