-- Texts put one after another are their join put at once; what a name stands for in a line; and how long the pieces of a line are at the most.
use Prim.Native.Nat.{ℕ, ◌+◌, ◌-◌, ◌/◌, ◌%◌, ◌≤◌, ◌<◌}
use mathlib.Core.Path.{◌≡◌, refl, ap, sym, ◌∙◌}
use mathlib.Core.Bool.{Bool, true, false}
use mathlib.Core.List.{List, [], ◌∷◌, ◌++◌, map, foldl}
use native.Mathlib.Nat.{add-zero}
use native.Mathlib.Numerals.{add-one}
use native.Mathlib.Omega.{arith}
use lib.Dec.{leb}
use lib.ListN.{length, get_or, drop, length-append}
use lib.Seq.{sets, sets-eq, length-sets, drop-cons, drop-drop}
use borrow.Rule.Slice.PartMut.{put_mid}
use Rattle.std.proofs.Common.{append_assoc}
use Rattle.rules.specs.Refusals.{pick}
use Rattle.machine.specs.declared.record.Report.{Report}
use Rattle.machine.specs.declared.record.Report.TheVariants.{Nothing, Denied, Through}
use Rattle.run.specs.Run.{report_named}
use Rattle.image.proofs.Stored.{sets_append}
use Rattle.text.specs.declared.Text.{Text}
use Rattle.text.specs.Put.{Put}
use Rattle.text.specs.Writing.{Wrote}
use Rattle.text.specs.Text.{leading_digit, decimal_of, name_text, line_of, lines_from}

pub put_none : (l : List ℕ) (at : ℕ) → Put l at [] l at
put_none l at = record { stored = refl; next = sym (add-zero at) }

pub put_put : {l m n s t : List ℕ} {at p q : ℕ} → Put l at s m p → Put m p t n q → Put l at (s ++ t) n q
put_put {l} {m} {n} {s} {t} {at} {p} {q} a b =
    record {
      stored = b.stored ∙ rw (a.stored, a.next) (sets_append l at s t);
      next = omega (arith, a.next, b.next, length-append s t);
    }

-- the same of texts: nothing written, one piece behind another, and the room that there is in all
pub wrote_none : (text : Text) → Wrote text text []
wrote_none text = record { buffer = refl; put = put_none text.out.now text.size }

pub wrote_then : {a b c : Text} {s t : List ℕ} → Wrote a b s → Wrote b c t → Wrote a c (s ++ t)
wrote_then first next = record { buffer = next.buffer ∙ first.buffer; put = put_put first.put next.put }

pub wrote_long : {a b : Text} {s : List ℕ} → Wrote a b s → length b.out.now ≡ length a.out.now
wrote_long {a} {s = s} wrote = ap length wrote.put.stored ∙ length-sets a.out.now a.size s

-- what is copied into a part of a buffer is stored there
pub mid_stored : (l new : List ℕ) (at : ℕ) → at + length new ≤ length l → put_mid at (at + length new - at) l new ≡ sets l at new
mid_stored l new at h =
    let long : at + length new - at ≡ length new = omega arith in
    rw (long, sets-eq new l at h, drop-drop (length new) at l, append_assoc)

-- the leading digits of a number, for some powers of ten one after another
abbrev pub leading_digits : (n : ℕ) (powers : List ℕ) → List ℕ
leading_digits n powers = foldl (λ digits power. digits ++ leading_digit n power) [] powers

pub leading_most : (n power : ℕ) → length (leading_digit n power) ≤ 1
leading_most n power = split (leb power n)
  where
    split : (b : Bool) → length (pick b ((48 + n / power % 10) ∷ []) []) ≤ 1
    split true = omega arith
    split false = omega arith

pub decimal_most : (n : ℕ) → length (decimal_of n) ≤ 5
unfolding decimal_of
decimal_most n =
    simp length-append
    (omega (arith, leading_most n 10000, leading_most n 1000, leading_most n 100, leading_most n 10))

pub name_most : (report : Report) → length (name_text report) ≤ 5
name_most Nothing = omega arith
name_most (Denied violation) = omega arith
name_most (Through s) = decimal_most s.0

pub line_most : (i answer : ℕ) (report : Report) → length (line_of i answer report) ≤ 18
unfolding line_of
line_most i answer report = simp length-append (omega (arith, decimal_most i, decimal_most answer, name_most report))

-- how much room pieces leave: none of them is longer than its `most` says
pub ruleset room = (arith, wrote_long, decimal_most, name_most)

-- the lines of the answers from i on with their names are the line of the answer at i and those past it
pub lines_next : (answers names : List ℕ) (i : ℕ) → i < length answers → i < length names
    → lines_from i (drop i answers) (map report_named (drop i names))
    ≡ line_of i (get_or answers i 0) (report_named (get_or names i 0)) ++ lines_from (i + 1) (drop (i + 1) answers) (map report_named (drop (i + 1) names))
unfolding lines_from
lines_next answers names i h h' = rw (drop-cons answers i 0 h, drop-cons names i 0 h', add-one)
