-- The order by which a pass falls: what is queued after a pair was completed is of pairs beneath it.
use Rattle.std.proofs.Common.{◌≡◌, refl, sym, subst, List, ℕ, suc, ◌<◌, arith}
use mathlib.Core.List.Memᴰ.{head as here}
use mathlib.Core.List.Memᴰ.{tail as there}
use mathlib.Core.List.{Memᴰ as Member}
use Rattle.item.specs.Item.{item_at}
use Rattle.binary_heap.specs.Entry.{Entry}
use Rattle.binary_heap.proofs.Each.{Every}
use Rattle.grammar.specs.Rules.{Rule}
use Rattle.parse.specs.WellFormed.{left_of}
use Rattle.completion.specs.Pass.{Pass}
use Rattle.completion.specs.Complete.{complete}
use Rattle.completion.specs.Scan.{scan_all}
use Rattle.completion.specs.Sums.{greatest, summed}
use Rattle.completion.specs.inner.Ready.{IsSet}
use Rattle.completion.specs.inner.Pending.{Grounds, Pending}
use Rattle.completion.proofs.Entries.{entries_of}
use Rattle.completion.proofs.Charting.{greatest_charts}
use Rattle.completion.proofs.Heaped.{Heaped, sound-entries}
use Rattle.completion.proofs.Pending.{Lower, pending_steady, pop_lower, complete-lower}
use Rattle.completion.proofs.Scanning.{Leaf, scan_all-lower}
use Rattle.completion.proofs.Once.{Beneath, HasRule, beneath_other, lower_beneath, pair_of}
use Rattle.completion.proofs.Once as once
use Rattle.forest.proofs.Entries.{Pair, Order}

-- A pair of the forest as one of the pass.
abbrev pub named : Pair → once.Pair
named p = record { set = p.set; symbol = p.symbol }

-- What is beneath a pair that is beneath another is beneath that: a rule of the middle pair lies between.
pub beneath_trans : {rs : List Rule} {a b c : once.Pair} → Beneath rs a b → Beneath rs b c → Beneath rs a c
beneath_trans {rs} {a} {b} {c} first second =
    record {
      up_to = omega (arith, first.up_to, second.up_to);
      rules = λ same q r there-q there-r left-q left_r.
          let between : HasRule rs b.symbol = first.ruled in
          let low : q < between.rule =
          second.rules (omega (arith, first.up_to, second.up_to)) q between.rule there-q between.is_rule left-q between.left in
          let high : between.rule < r =
          first.rules (omega (arith, first.up_to, second.up_to)) between.rule r between.is_rule there-r between.left left_r in
          omega arith;
      ruled = second.ruled;
    }

-- So pairs are ordered by it.
abbrev pub beneath_order : List Rule → Order
beneath_order rs =
    record {
      Below = λ a b. Beneath rs (named b) (named a);
      lower = λ p q. beneath_trans q p;
      other = λ p. beneath_other p refl;
    }

-- What each entry has, a member has.
pub every_member : (P : Entry → Type 0) {e : Entry} {l : List Entry} → Every P l → Member e l → P e
every_member P all (here is) = subst P (sym is) (all.each 0 (omega arith))
every_member P all (there m) = every_member P (record { each = λ k less. all.each (suc k) (omega arith) }) m

module _ {rs : List Rule} {starts rows : List ℕ} (grounds : Grounds rs starts rows) where
  -- Entries that are lower than a pair are of pairs beneath it.
  heaped_beneath : (k x : ℕ) (s t : Pass) → Heaped rs starts (Lower rs k x) s t → (e : Entry) → Member e (entries_of t)
      → Beneath rs (record { set = k; symbol = x }) (pair_of rs (item_at t.items e.place))
  heaped_beneath k x s t heaped e m =
      let place : e.place < t.at.items = every_member (λ v. v.place < t.at.items) (sound-entries t heaped.steady.sound) m in
      lower_beneath grounds k x (item_at t.items e.place) (heaped.steady.charted.rules e.place place)
      (every_member (λ v. Lower rs k x (item_at t.items v.place)) heaped.ordered.each m)

  -- After the scanning of kinds all entries are of pairs beneath that of the set and any token;
  pub scan_beneath : (s : Pass) → Pending rs starts s → (k : ℕ) → IsSet starts k → s.at.queued ≡ 0 → (kinds : List ℕ) (x : ℕ) → Leaf rs x → (e : Entry)
      → Member e (entries_of (scan_all rs starts rows k kinds s))
      → Beneath rs (record { set = k; symbol = x }) (pair_of rs (item_at (scan_all rs starts rows k kinds s).items e.place))
  scan_beneath s pending k set none kinds x leaf =
      heaped_beneath k x s (scan_all rs starts rows k kinds s) (scan_all-lower rows s pending k set kinds none x leaf)

  -- and so are those left after the pops of a sum of pairs beneath the sum's, and after its pair was completed too.
  pub rest_beneath : (s : Pass) → Pending rs starts s → 0 < s.at.queued → (e : Entry)
      → Member e (entries_of (summed rs (greatest s).origin (left_of rs (greatest s)) s))
      → Beneath rs (pair_of rs (greatest s)) (pair_of rs (item_at (summed rs (greatest s).origin (left_of rs (greatest s)) s).items e.place))
  rest_beneath s pending some =
      heaped_beneath (greatest s).origin (left_of rs (greatest s)) s (summed rs (greatest s).origin (left_of rs (greatest s)) s)
      (pop_lower grounds s pending some)

  pub after_beneath : (s : Pass) → Pending rs starts s → 0 < s.at.queued → (link : ℕ) → (e : Entry)
      → Member e (entries_of (complete rs starts rows (greatest s).origin (left_of rs (greatest s)) link (summed rs (greatest s).origin (left_of rs (greatest s)) s)))
      → Beneath rs (pair_of rs (greatest s))
      (pair_of rs
      (item_at (complete rs starts rows (greatest s).origin (left_of rs (greatest s)) link (summed rs (greatest s).origin (left_of rs (greatest s)) s)).items
      e.place))
  after_beneath s pending some link =
      let k : ℕ = (greatest s).origin in
      let x : ℕ = left_of rs (greatest s) in
      heaped_beneath k x s (complete rs starts rows k x link (summed rs k x s))
      (complete-lower grounds s pending k x link (greatest_charts rs starts s s some (pending_steady s pending)).is_set (summed rs k x s)
      (pop_lower grounds s pending some))
