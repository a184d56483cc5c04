-- The part that the set report tells, by the place of its first word and the number of its words.
use Rattle.std.proofs.Common.{◌≡◌, refl, sym, subst, List, ℕ, ◌-◌, ◌*◌, ◌≤◌, arith, length, drop, length-take, length-drop}
use Rattle.item.specs.Item.{item_words}
use Rattle.grammar.specs.Rules.{Grammar}
use Rattle.parse.specs.declared.State.{State}
use Rattle.parse.specs.Words.{Words, within, start_of, item_room, max_items}
use Rattle.demands.specs.Steps.{latest_part}
use Rattle.demands.specs.Calls.{FileFault, CallFault, Formed, Reports}
use Rattle.host.specs.Reports.{ReportsIn}

-- A fault has a number that is not 0.
file-some : {file : List ℕ} {n : ℕ} → FileFault file n → n ≡ 0 → ⊥
file-some (FileFault.malformed m) e = omega arith
file-some (FileFault.broken w b) e = omega arith

call_some : {file : List ℕ} {s : State} {w : Words} {n : ℕ} → CallFault file s w n → n ≡ 0 → ⊥
call_some (CallFault.file_fault f) e = file-some f e
call_some (CallFault.ill_formed c i) e = omega arith

module _ {file : List ℕ} {s : State} {w : Words} {g : Grammar} (f : Formed file s w g) where
  -- A formed state has no more items than there is room for, and the latest set begins among them.
  few : s.items ≤ item_room w
  few = omega (arith, f.well_formed.items_fit, length-take (item_words * item_room w) w.items)

  begins : start_of (within w) s.set ≤ s.items
  begins = omega (arith, f.well_formed.never_falls s.set (omega arith), f.well_formed.last_start)

  long : length (latest_part s (within w)) ≡ item_words * (s.items - start_of (within w) s.set)
  long =
      omega (
        arith,
        length-take (item_words * (s.items - start_of (within w) s.set)) (drop (item_words * start_of (within w) s.set) (within w).items),
        length-drop (item_words * start_of (within w) s.set) (within w).items,
        length-take (item_words * item_room w) w.items,
        few,
        begins,
      )

module _ {file : List ℕ} {s : State} {w : Words} where
  -- The items of a report are within capacity, and the part is no longer than they are.
  pub few_items : {part : List ℕ} → Reports file s w 0 part → s.items ≤ max_items
  few_items (Reports.refused fault) = absurd (call_some fault refl)
  few_items (Reports.done f) = omega (arith, few f)

  pub within_items : {part : List ℕ} → Reports file s w 0 part → length part ≤ item_words * s.items
  within_items (Reports.refused fault) = absurd (call_some fault refl)
  within_items (Reports.done f) = omega (arith, long f)

  -- The part ends where the items do.
  pub reports_in : {part : List ℕ} → Reports file s w 0 part → ReportsIn file s w 0 (item_words * s.items - length part) (length part)
  reports_in (Reports.refused fault) = absurd (call_some fault refl)
  reports_in (Reports.done f) =
      subst (λ (count : ℕ). ReportsIn file s w 0 (item_words * s.items - count) count) (sym (long f))
      (subst (λ (x : ℕ). ReportsIn file s w 0 x (item_words * (s.items - start_of (within w) s.set))) (omega (arith, begins f)) (ReportsIn.done f))

  -- A refused one tells place 0.
  pub refused_in : {n : ℕ} {part : List ℕ} → Reports file s w n part → (n ≡ 0 → ⊥) → ReportsIn file s w n 0 0
  refused_in (Reports.refused fault) some = ReportsIn.refused fault
  refused_in (Reports.done f) some = absurd (some refl)
