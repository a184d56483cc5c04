-- Entries, pairs and items of a pass: what completing a pair calls for, and what a pass has to keep of its items and handles.
use Rattle.std.proofs.Common.{◌≡◌, refl, ◌∙◌, ap, Bool, true, false, ◌&&◌, List, ◌⊎◌, ℕ, ◌≤◌, ◌<◌, arith, eqb, eq-eqb, ne_eqb, eqb-true}
use mathlib.Core.List.{Memᴰ as Member}
use Rattle.laws.proofs.Tests.{both_true}
use Rattle.binary_heap.specs.Entry.{Entry}
use Rattle.grammar.specs.Rules.{Grammar, Says, none, rule_at, rule_count}
use Rattle.earley.proofs.Sieves.{Any}
use Rattle.earley.proofs.Charts.{Chart}
use Rattle.forest.specs.Forests.{Product, alone, paired}
use Rattle.forest.proofs.Counted.{Telling}
use Rattle.forest.proofs.Tied.{Turn, Terms}

-- An entry of the queue is a place of an item and a right factor, or all ones for none.
abbrev pub entry : ℕ → ℕ → Entry
entry place right = record { place = place; right = right }

abbrev pub ones : ℕ
ones = 0xFFFFFFFF

-- A set and a symbol.
pub record Pair : Type 0 where
  pub set : ℕ
  pub symbol : ℕ

pub same-pair : {p q : Pair} → p.set ≡ q.set → p.symbol ≡ q.symbol → p ≡ q
same-pair a b = λ i. record { set = a i; symbol = b i }

pub same_entry : {e f : Entry} → e.place ≡ f.place → e.right ≡ f.right → e ≡ f
same_entry a b = λ i. record { place = a i; right = b i }

-- Two entries are the same where both words are.
abbrev telling : Telling Entry
telling = record {
  same = λ a b. eqb a.place b.place && eqb a.right b.right;
  itself = λ a. ap (λ x. x && eqb a.right a.right) (eq-eqb a.place a.place refl) ∙ eq-eqb a.right a.right refl;
  equal = λ a b e.
      let p = both_true (eqb a.place b.place) (eqb a.right b.right) e in
      same_entry (eqb-true a.place b.place p.0) (eqb-true a.right b.right p.1);
}

-- The items at the end of a pass: the words of a place, which places are of which set, and which are new.
pub record Items : Type 1 where
  pub origin : ℕ → ℕ
  pub rule : ℕ → ℕ
  pub handle : ℕ → ℕ
  pub Inside : ℕ → ℕ → Type 0
  pub New : ℕ → Type 0

-- The product of an entry: without a right factor, or with one. And the handle that it was called for with.
abbrev chosen : Bool → ℕ → ℕ → ℕ → Product
chosen true r a b = alone r a
chosen false r a b = paired r a b

abbrev handle_of : Bool → ℕ → ℕ → ℕ
handle_of true a b = a
handle_of false a b = b

abbrev pub product_of : Items → Entry → Product
product_of is e = chosen (eqb e.right ones) (is.rule e.place) (is.handle e.place) e.right

-- Which pair comes below which.
pub record Order : Type 1 where
  pub Below : Pair → Pair → Type 0
  pub lower : {a b c : Pair} → Below a b → Below b c → Below a c
  pub other : {a : Pair} → Below a a → ⊥

abbrev pub terms : Grammar → Items → Order → Terms Entry Pair
terms g is o = record {
  tell = telling;
  pair_of = λ e. record { set = is.origin e.place; symbol = (rule_at g (is.rule e.place)).left };
  asker_of = λ e. handle_of (eqb e.right ones) (is.handle e.place) e.right;
  Below = o.Below;
  lower = o.lower;
  other = o.other;
}

-- An entry that completing a pair calls for: a place of its set whose second is the symbol, with the pair's handle;
pub record Medial (g : Grammar) (c : Chart) (is : Items) (t : Turn Entry Pair) (e : Entry) : Type 0 where
  pub row : c.row t.pair.set t.pair.symbol
  pub inside : is.Inside t.pair.set e.place
  pub second : (rule_at g (is.rule e.place)).second ≡ t.pair.symbol
  pub right : e.right ≡ t.handle

-- or the place of the new item of a rule of that symbol alone.
pub record Lone (g : Grammar) (c : Chart) (is : Items) (t : Turn Entry Pair) (e : Entry) : Type 0 where
  pub row : c.row t.pair.set t.pair.symbol
  pub new : is.New e.place
  pub origin : is.origin e.place ≡ t.pair.set
  pub first : (rule_at g (is.rule e.place)).first ≡ t.pair.symbol
  pub second : (rule_at g (is.rule e.place)).second ≡ none
  pub left : c.row t.pair.set (rule_at g (is.rule e.place)).left
  pub handle : is.handle e.place ≡ t.handle
  pub right : e.right ≡ ones

-- The new item of rule `r` that a pair calls for.
pub record Stored (is : Items) (t : Turn Entry Pair) (r : ℕ) : Type 0 where
  pub place : ℕ
  pub origin : is.origin place ≡ t.pair.set
  pub rule : is.rule place ≡ r
  pub handle : is.handle place ≡ t.handle
  pub queued : Member (entry place ones) t.calls

-- Each turn calls for those of these whose left side passes, and for no others.
pub record CallingFor (g : Grammar) (c : Chart) (is : Items) (passes : ℕ → Type 0) (past : List (Turn Entry Pair)) : Type 0 where
  pub only : (t : Turn Entry Pair) (e : Entry) → Member t past → Member e t.calls → Medial g c is t e ⊎ Lone g c is t e
  pub passed : (t : Turn Entry Pair) (e : Entry) → Member t past → Member e t.calls → passes (rule_at g (is.rule e.place)).left
  pub medial : (t : Turn Entry Pair) (p : ℕ) → Member t past → c.row t.pair.set t.pair.symbol → is.Inside t.pair.set p
      → (rule_at g (is.rule p)).second ≡ t.pair.symbol → passes (rule_at g (is.rule p)).left → Member (entry p t.handle) t.calls
  pub unary : (t : Turn Entry Pair) (r x : ℕ) → Member t past → c.row t.pair.set t.pair.symbol → Says g r x t.pair.symbol none
      → c.row t.pair.set x → passes x → Stored is t r

-- With no hint every left side passes.
abbrev pub Calling : Grammar → Chart → Items → List (Turn Entry Pair) → Type 0
Calling g c is past = CallingFor g c is Any past

-- A place of a set's item.
pub record Place (is : Items) (s o r : ℕ) : Type 0 where
  pub place : ℕ
  pub inside : is.Inside s place
  pub origin : is.origin place ≡ o
  pub rule : is.rule place ≡ r

-- The items are those of the chart, and no item stands twice in a set, nor among the new ones.
pub record Charted (g : Grammar) (c : Chart) (is : Items) : Type 0 where
  pub rules : {s p : ℕ} → is.Inside s p → is.rule p < rule_count g
  pub new-rules : {p : ℕ} → is.New p → is.rule p < rule_count g
  pub is_item : {s p : ℕ} → is.Inside s p → c.item s (is.origin p) (is.rule p)
  pub item_is : {s o r : ℕ} → c.item s o r → Place is s o r
  pub once : {s p q : ℕ} → is.Inside s p → is.Inside s q → is.origin p ≡ is.origin q → is.rule p ≡ is.rule q → p ≡ q
  pub new-once : {p q : ℕ} → is.New p → is.New q → is.origin p ≡ is.origin q → is.rule p ≡ is.rule q → p ≡ q

-- Nodes are only added: old handles lie before the units that were used at the start, those of the pass behind, and all are small.
pub record Rising (is : Items) (past : List (Turn Entry Pair)) : Type 0 where
  pub used : ℕ
  pub old : {s p : ℕ} → is.Inside s p → is.handle p < used
  pub from : (t : Turn Entry Pair) → Member t past → used ≤ t.handle
  pub small : (t : Turn Entry Pair) → Member t past → t.handle < ones

-- The pair was completed with this handle; the item has this handle.
pub record Linked (past : List (Turn Entry Pair)) (k x h : ℕ) : Type 0 where
  pub turn : Turn Entry Pair
  pub member : Member turn past
  pub set : turn.pair.set ≡ k
  pub symbol : turn.pair.symbol ≡ x
  pub handle : turn.handle ≡ h

pub record Held (is : Items) (s o r h : ℕ) : Type 0 where
  pub place : ℕ
  pub inside : is.Inside s place
  pub origin : is.origin place ≡ o
  pub rule : is.rule place ≡ r
  pub handle : is.handle place ≡ h

-- Each turn is of a kind that was read, or has a product.
pub record Read (c : Chart) (ks : List ℕ) (t : Turn Entry Pair) : Type 0 where
  pub latest : t.pair.set ≡ c.last
  pub kind : Member t.pair.symbol ks
  pub row : c.row c.last t.pair.symbol

pub record Fed (t : Turn Entry Pair) : Type 0 where
  pub entry : Entry
  pub product : Member entry t.products

module _ (is : Items) where
  -- An entry without a right factor is a product of one factor, any other of two.
  pub product_lone : (e : Entry) → e.right ≡ ones → product_of is e ≡ alone (is.rule e.place) (is.handle e.place)
  product_lone e h = ap (λ b. chosen b (is.rule e.place) (is.handle e.place) e.right) (eq-eqb e.right ones h)

  pub product_two : (e : Entry) → (e.right ≡ ones → ⊥) → product_of is e ≡ paired (is.rule e.place) (is.handle e.place) e.right
  product_two e h = ap (λ b. chosen b (is.rule e.place) (is.handle e.place) e.right) (ne_eqb e.right ones h)

  module _ (g : Grammar) (c : Chart) (o : Order) where
    -- What a pair calls for names its handle.
    pub medial_asker : {t : Turn Entry Pair} {e : Entry} → t.handle < ones → Medial g c is t e → (terms g is o).asker_of e ≡ t.handle
    medial_asker {t} {e} small m =
        ap (λ b. handle_of b (is.handle e.place) e.right) (ne_eqb e.right ones (λ h. omega (arith, m.right))) ∙ m.right

    pub lone_asker : {t : Turn Entry Pair} {e : Entry} → Lone g c is t e → (terms g is o).asker_of e ≡ t.handle
    lone_asker {t} {e} m = ap (λ b. handle_of b (is.handle e.place) e.right) (eq-eqb e.right ones m.right) ∙ m.handle
