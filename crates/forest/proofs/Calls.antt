-- One completion by its loops: what they queue is what the pair calls for, each entry once.
use Rattle.std.proofs.Common.{◌≡◌, refl, sym, ◌∙◌, ap, subst, Bool, true, false, List, [], ◌++◌, ◌⊎◌, inl, inr, ⊎_elim, ℕ, ◌+◌, ◌-◌, ◌≤◌, ◌<◌, arith}
use mathlib.Core.List.Memᴰ.{not-nil as no_member}
use mathlib.Core.List.{Memᴰ as Member}
use mathlib.Core.List.Memᴰ.{append_cases as member-either}
use mathlib.Core.List.Memᴰ.{append_left as member-left}
use mathlib.Core.List.Memᴰ.{append_right as member_right}
use Rattle.grammar.specs.Rules.{Grammar, Says, none, rule_at, rule_count}
use Rattle.earley.proofs.Sieves.{Any}
use Rattle.earley.proofs.Charts.{Chart}
use Rattle.forest.specs.Lists.{none as nothing, Once}
use Rattle.forest.proofs.Lists.{ordered-append}
use Rattle.forest.proofs.Tied.{Turn}
use Rattle.binary_heap.specs.Entry.{Entry}
use Rattle.forest.proofs.Entries.{entry, ones, Pair, Items, Medial, Lone, Stored, CallingFor}
use Rattle.forest.proofs.Loops.{gathered, gathered_from, gathers, gathered_once, passing, passing_rises}

-- A list, or none.
abbrev pub when : {A : Type 0} → Bool → List A → List A
when true l = l
when false l = []

-- The places from `from` on that pass; then a new place for each rule that passes, one behind another from `base` on.
abbrev pub medials : (ℕ → Bool) → ℕ → ℕ → ℕ → List Entry
medials second from number handle = gathered second (λ i. entry (from + i) handle) number

abbrev pub lones : (ℕ → Bool) → ℕ → ℕ → List Entry
lones begins base rules = gathered begins (λ r. entry (base + passing begins r) ones) rules

-- A place of the set by its number.
pub record At (from number p : ℕ) : Type 0 where
  pub from_on : from ≤ p
  pub up_to : p < from + number

-- Rule `r` is of the symbol alone, and its left side is in the row and passes.
pub record BeginsFor (g : Grammar) (c : Chart) (passes : ℕ → Type 0) (k y r : ℕ) : Type 0 where
  pub is_rule : r < rule_count g
  pub first : (rule_at g r).first ≡ y
  pub second : (rule_at g r).second ≡ none
  pub left : c.row k (rule_at g r).left
  pub passed : passes (rule_at g r).left

-- The item stored at a place.
pub record StoredAt (is : Items) (k r h p : ℕ) : Type 0 where
  pub new : is.New p
  pub origin : is.origin p ≡ k
  pub rule : is.rule p ≡ r
  pub handle : is.handle p ≡ h

-- One completion, by its tests.
pub record LoopedFor (g : Grammar) (c : Chart) (is : Items) (passes : ℕ → Type 0) (t : Turn Entry Pair) : Type 0 where
  pub from : ℕ
  pub number : ℕ
  pub base : ℕ
  pub row : Bool
  pub second : ℕ → Bool
  pub begins : ℕ → Bool
  pub are : t.calls ≡ when row (medials second from number t.handle ++ lones begins base (rule_count g))
  pub small : t.handle < ones
  pub in_row : row ≡ true → c.row t.pair.set t.pair.symbol
  pub row_in : c.row t.pair.set t.pair.symbol → row ≡ true
  pub inside : (p : ℕ) → is.Inside t.pair.set p → At from number p
  pub place : (i : ℕ) → i < number → is.Inside t.pair.set (from + i)
  pub is_second_lem : (i : ℕ) → i < number → second i ≡ true → (rule_at g (is.rule (from + i))).second ≡ t.pair.symbol
  pub second_passes : (i : ℕ) → i < number → second i ≡ true → passes (rule_at g (is.rule (from + i))).left
  pub second_is : (i : ℕ) → i < number → (rule_at g (is.rule (from + i))).second ≡ t.pair.symbol → passes (rule_at g (is.rule (from + i))).left
      → second i ≡ true
  pub does_begin : (r : ℕ) → begins r ≡ true → r < rule_count g → BeginsFor g c passes t.pair.set t.pair.symbol r
  pub begin_does : (r : ℕ) → BeginsFor g c passes t.pair.set t.pair.symbol r → begins r ≡ true
  pub stored : row ≡ true → (r : ℕ) → r < rule_count g → begins r ≡ true → StoredAt is t.pair.set r t.handle (base + passing begins r)

-- With no hint every left side passes.
abbrev pub Begins : Grammar → Chart → ℕ → ℕ → ℕ → Type 0
Begins g c k y r = BeginsFor g c Any k y r

abbrev pub Looped : Grammar → Chart → Items → Turn Entry Pair → Type 0
Looped g c is t = LoopedFor g c is Any t

-- A member of a list that is there only sometimes.
record Sometimes {A : Type 0} (b : Bool) (l : List A) (a : A) : Type 0 where
  pub on : b ≡ true
  pub member : Member a l

sometimes : {A : Type 0} {a : A} (b : Bool) (l : List A) → Member a (when b l) → Sometimes b l a
sometimes true l m = record { on = refl; member = m }
sometimes false l m = absurd (no_member m)

once_when : {A : Type 0} (b : Bool) {l : List A} → Once l → Once (when b l)
once_when true o = o
once_when false o = nothing

module _ {g : Grammar} {c : Chart} {is : Items} {passes : ℕ → Type 0} (t : Turn Entry Pair) (d : LoopedFor g c is passes t) where
  abbrev first_part : List Entry
  first_part = medials d.second d.from d.number t.handle

  abbrev second-part : List Entry
  second-part = lones d.begins d.base (rule_count g)

  is_call : {e : Entry} → d.row ≡ true → Member e (first_part ++ second-part) → Member e t.calls
  is_call {e} on m = subst (λ l. Member e l) (sym d.are) (subst (λ b. Member e (when b (first_part ++ second-part))) (sym on) m)

  -- They queue nothing else,
  looped_only : (e : Entry) → Member e t.calls → Medial g c is t e ⊎ Lone g c is t e
  looped_only e m =
      let s = sometimes d.row (first_part ++ second-part) (subst (λ l. Member e l) d.are m) in
      ⊎_elim
      (λ l.
      let f = gathered_from d.second (λ i. entry (d.from + i) t.handle) d.number l in
      inl (subst (Medial g c is t) f.is
      (record {
        row = d.in_row s.on;
        inside = d.place f.number f.below;
        second = d.is_second_lem f.number f.below f.passes;
        right = refl;
      })))
      (λ r.
      let f = gathered_from d.begins (λ r. entry (d.base + passing d.begins r) ones) (rule_count g) r in
      let b = d.does_begin f.number f.passes f.below in
      let st = d.stored s.on f.number f.below f.passes in
      inr (subst (Lone g c is t) f.is
      (record {
        row = d.in_row s.on;
        new = st.new;
        origin = st.origin;
        first = ap (λ n. (rule_at g n).first) st.rule ∙ b.first;
        second = ap (λ n. (rule_at g n).second) st.rule ∙ b.second;
        left = subst (λ n. c.row t.pair.set (rule_at g n).left) (sym st.rule) b.left;
        handle = st.handle;
        right = refl;
      })))
      (member-either first_part s.member)

  -- nothing whose left side does not pass,
  looped_passed : (e : Entry) → Member e t.calls → passes (rule_at g (is.rule e.place)).left
  looped_passed e m =
      let s = sometimes d.row (first_part ++ second-part) (subst (λ l. Member e l) d.are m) in
      let passed : (e : Entry) → Type 0 = λ e. passes (rule_at g (is.rule e.place)).left in
      ⊎_elim
      (λ l.
      let f = gathered_from d.second (λ i. entry (d.from + i) t.handle) d.number l in
      subst passed f.is (d.second_passes f.number f.below f.passes))
      (λ r.
      let f = gathered_from d.begins (λ r. entry (d.base + passing d.begins r) ones) (rule_count g) r in
      let st = d.stored s.on f.number f.below f.passes in
      subst passed f.is (subst (λ n. passes (rule_at g n).left) (sym st.rule) (d.does_begin f.number f.passes f.below).passed))
      (member-either first_part s.member)

  -- every item that waits for the symbol,
  looped_medial : (p : ℕ) → c.row t.pair.set t.pair.symbol → is.Inside t.pair.set p → (rule_at g (is.rule p)).second ≡ t.pair.symbol
      → passes (rule_at g (is.rule p)).left → Member (entry p t.handle) t.calls
  looped_medial p row in_set second passed =
      let at = d.inside p in_set in
      let i : ℕ = p - d.from in
      let is-p : d.from + (p - d.from) ≡ p = omega (arith, at.from_on) in
      let low : p - d.from < d.number = omega (arith, at.from_on, at.up_to) in
      let on : d.second (p - d.from) ≡ true =
      d.second_is (p - d.from) low (subst (λ q. (rule_at g (is.rule q)).second ≡ t.pair.symbol) (sym is-p) second)
      (subst (λ q. passes (rule_at g (is.rule q)).left) (sym is-p) passed) in
      is_call (d.row_in row)
      (member-left second-part
      (subst (λ q. Member (entry q t.handle) first_part) is-p (gathers d.second (λ i. entry (d.from + i) t.handle) (p - d.from) d.number low on)))

  -- and the new item of every rule of the symbol alone.
  looped_unary : (r x : ℕ) → c.row t.pair.set t.pair.symbol → Says g r x t.pair.symbol none → c.row t.pair.set x → passes x
      → Stored is t r
  looped_unary r x row says left passed =
      let b : BeginsFor g c passes t.pair.set t.pair.symbol r =
      record {
        is_rule = says.there;
        first = says.first;
        second = says.second;
        left = subst (c.row t.pair.set) (sym says.left) left;
        passed = subst passes (sym says.left) passed;
      } in
      let on : d.begins r ≡ true = d.begin_does r b in
      let st = d.stored (d.row_in row) r says.there on in
      record {
        place = d.base + passing d.begins r;
        origin = st.origin;
        rule = st.rule;
        handle = st.handle;
        queued = is_call (d.row_in row)
            (member_right first_part (gathers d.begins (λ r. entry (d.base + passing d.begins r) ones) r (rule_count g) says.there on));
      }

  -- Each entry once.
  pub looped_once : Once t.calls
  looped_once =
      subst Once (sym d.are)
      (once_when d.row
      (ordered-append
      (gathered_once d.second (λ i. entry (d.from + i) t.handle)
      (λ i j less a b same. let places : d.from + i ≡ d.from + j = ap (λ (e : Entry). e.place) same in omega arith) d.number)
      (gathered_once d.begins (λ r. entry (d.base + passing d.begins r) ones)
      (λ i j less a b same.
      let places : d.base + passing d.begins i ≡ d.base + passing d.begins j = ap (λ (e : Entry). e.place) same in
      omega (arith, passing_rises d.begins i j less a)) (rule_count g))
      (λ e e' l r same.
      let f = gathered_from d.second (λ i. entry (d.from + i) t.handle) d.number l in
      let h = gathered_from d.begins (λ r. entry (d.base + passing d.begins r) ones) (rule_count g) r in
      let right : t.handle ≡ ones = ap (λ (e : Entry). e.right) (f.is ∙ same ∙ sym h.is) in
      omega (arith, d.small))))

-- So the pairs call for what they should.
pub calling_all : {g : Grammar} {c : Chart} {is : Items} {passes : ℕ → Type 0} {past : List (Turn Entry Pair)}
    → ((t : Turn Entry Pair) → Member t past → LoopedFor g c is passes t) → CallingFor g c is passes past
calling_all looped =
    record {
      only = λ t e m. looped_only t (looped t m) e;
      passed = λ t e m. looped_passed t (looped t m) e;
      medial = λ t p m. looped_medial t (looped t m) p;
      unary = λ t r x m. looped_unary t (looped t m) r x;
    }
