-- What a call knows of a file that it has opened.
use mathlib.Core.Path.{◌≡◌, refl, sym, ap, subst, ◌∙◌}
use mathlib.Core.Bool.{Bool, true, false}
use mathlib.Core.List.{List}
use Prim.Native.Nat.{ℕ, ◌-◌, ◌<◌}
use native.Mathlib.Omega.{arith}
use Rattle.item.specs.Item.{handle_at}
use Rattle.node.specs.Rows.{all_ones}
use Rattle.std.specs.Prelude.{Result, Ok, Err}
use Rattle.grammar.specs.Answers.{Verdict, fault_number}
use Rattle.grammar.specs.Answers.{number_of as of_check}
use Rattle.grammar.specs.declared.Fault.{Fault}
use Rattle.grammar.specs.declared.Fault.TheVariants as fault
use Rattle.grammar.specs.declared.Grammar as held
use Rattle.grammar.specs.inner.Decoded.{rules_of, decoded, Chained, HoldsFile, Decodes}
use Rattle.grammar.proofs.Verdicts.{AcceptedFile, accepted-file, accepted_readable, holds-grammar, holds-accepted}
use Rattle.grammar.specs.Rules.{Grammar}
use Rattle.parse.specs.declared.State.{State}
use Rattle.laws.specs.Decides.{Decides}
use Rattle.parse.specs.Words.{Words, within}
use Rattle.parse.specs.WellFormed.{WellFormed}
use Rattle.recognizer.specs.declared.Refusal.{Refusal}
use Rattle.recognizer.specs.Answers.{refusal_number, fault_refusal}
use Rattle.demands.specs.Calls.{FileFault, CallFault, Formed, Finishes, Reports}
use Rattle.recognizer.specs.inner.Cuts.{last_wraps_in, latest_part_in}
use Rattle.recognizer.specs.inner.Opening.{Opened, ReadyFor, Readies}
use Rattle.recognizer.proofs.Cutting.{wraps_item, last-same, handle-same, part_same}

-- A file that is refused: why, by its number.
fault_told : {file : List ℕ} (f : Fault) → Verdict file (fault_number f) → FileFault file (refusal_number (fault_refusal f))
fault_told fault.Malformed v = FileFault.malformed (v.one refl)
fault_told fault.Broken v = FileFault.broken (λ m. omega (arith, v.always_one m)) (v.two refl)

module _ {file : List ℕ} {r : Result (Unit {0}) Fault} (verdict : Verdict file (of_check r)) where
  pub file_refused : {f : Fault} {why : Refusal} → r ≡ Err f → why ≡ fault_refusal f → FileFault file (refusal_number why)
  file_refused {f} {why} is same = subst (λ (x : Refusal). FileFault file (refusal_number x)) (sym same) (fault_told f (subst (λ (x : Result (Unit {0}) Fault). Verdict file (of_check x)) is verdict))

  -- An accepted file: the grammar is its own.
  pub file_opened : {before after : held.Grammar} → Decodes file (of_check r) before after → {u : Unit {0}} → r ≡ Ok u → Opened file after
  file_opened {before} {after} decodes is =
      let zero : of_check r ≡ 0 = ap of_check is in
      let a : AcceptedFile file = accepted-file file _ verdict zero in
      let holds : HoldsFile file after = decodes.accepted zero in
      record {
        checked = record { whole = a.formed; is = sym (holds-grammar file after holds); accepted = holds-accepted file after a holds };
        few = omega (arith, holds.count, (accepted_readable file a.formed a.accepted).1);
        chained = subst (Chained after.rules.words) (sym holds.count) holds.words.chained;
      }

module _ {file : List ℕ} {g : held.Grammar} (opened : Opened file g) {s : State} {w : Words} {b : Bool}
    (tells : Decides b (WellFormed g.symbols (rules_of g.rules) s (within w))) where
  -- The state is well formed or not, as the test tells.
  pub told_ill_formed : b ≡ false → CallFault file s w 4
  told_ill_formed fails = CallFault.ill_formed opened.checked (tells.if_no fails)

  pub told_ready : b ≡ true → ReadyFor file s w g
  told_ready holds = record { opened = opened; well_formed = tells.if_yes holds }

-- What the first checks of a call have told.
module _ (file : List ℕ) (s : State) (w : Words) (g : held.Grammar) {r : Result (Unit {0}) Refusal} (tells : Readies file s w g r) where
  pub readied_fault : {why : Refusal} → r ≡ Err why → CallFault file s w (refusal_number why)
  readied_fault is = subst (Readies file s w g) is tells

  pub readied_for : {u : Unit {0}} → r ≡ Ok u → ReadyFor file s w g
  readied_for is = subst (Readies file s w g) is tells

  pub readied_formed : {u : Unit {0}} → r ≡ Ok u → Formed file s w (decoded g)
  readied_formed is = record { checked = (readied_for is).opened.checked; well_formed = (readied_for is).well_formed }

-- The reports of a well-formed state, from the uncut words.
module _ (file : List ℕ) (s : State) (w : Words) where
  -- Finished says what the test of the last item tells: no, ..
  module _ {g : Grammar} (formed : Formed file s w g) (b : Bool) (is : b ≡ last_wraps_in s w.items w.starts) where
    finishes_so : (answer : Bool) → b ≡ answer → Finishes file s w 0 answer (elim answer [ true ↦ handle_at (within w).items (s.items - 1) | false ↦ all_ones ])
    finishes_so answer so =
        subst (λ (a : Bool). Finishes file s w 0 a (elim a [ true ↦ handle_at (within w).items (s.items - 1) | false ↦ all_ones ]))
        (sym (last-same g.symbols g.rules s w formed.well_formed) ∙ sym is ∙ so) (Finishes.done formed)

    pub finishes_no : b ≡ false → Finishes file s w 0 false all_ones
    finishes_no fails = finishes_so false fails

    -- .. or yes; then there is an item, ..
    pub finishes_item : b ≡ true → 0 < s.items
    finishes_item wraps = wraps_item s w.items w.starts (sym is ∙ wraps)

    -- .. and its handle is told.
    pub finishes-yes : b ≡ true → (handle : ℕ) → handle ≡ handle_at w.items (s.items - 1) → Finishes file s w 0 true handle
    finishes-yes wraps handle found =
        subst (Finishes file s w 0 true) (sym (found ∙ handle-same g.symbols g.rules s w formed.well_formed (finishes_item wraps)))
        (finishes_so true wraps)

  pub reports_with : {g : Grammar} → Formed file s w g → (part : List ℕ) → part ≡ latest_part_in s w.items w.starts → Reports file s w 0 part
  reports_with {g} formed part is =
      subst (Reports file s w 0) (sym (is ∙ part_same g.symbols g.rules s w formed.well_formed)) (Reports.done formed)
