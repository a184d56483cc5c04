-- A longer form where a shorter was due is 12, seen at its head.
use Rattle.std.proofs.Common.{ℕ, ◌+◌, ◌*◌, ◌<◌, ◌≡◌, refl, sym, ap, subst, ◌∙◌, Bool, true, false, List, [], ◌∷◌, arith, length, get_or, ne_eqb, Some, None}
use Rattle.node.specs.Choice.{both_below}
use Rattle.node.specs.Rows.{units_at, long_product, distance, low, high, all_ones}
use Rattle.node.specs.Answers.{refused, no_node, nothing}
use Rattle.node.specs.Reading.{filler, head_from, stand, spelt, head_right, read_units}
use Rattle.node.specs.declared.Node.{Node}
use Rattle.node.specs.declared.Node.TheVariants.{Sum, Product, NullingLeaf, Evaluated}
use Rattle.node.proofs.Choices.{BothBelow, below}
use Rattle.node.proofs.Due.{due-sum, due-short, due-middle, due-pair, due-evaluated, due_nulling}
use Rattle.node.proofs.Lowest.{other-head}
use Rattle.node.proofs.Fillers.{head-here}
use Rattle.node.proofs.Stands as S
use Rattle.node.proofs.Spells as Sp
use Rattle.node.proofs.Exact.{read_head-fault}

-- Units of a row that comes behind one that fits, in the table's order: the longest Sum; the Product of two units and the longest
-- Product, without and with a right factor; the leaves of four units.
pub data Longer (p : ℕ) : Node → List ℕ → Type 0 where
  sum : {count nonterminal : ℕ} → count < 32 → nonterminal < 256
      → Longer p (Sum count nonterminal) ((0xE000 + high count) ∷ low count ∷ low nonterminal ∷ high nonterminal ∷ [])
  middle : {action left : ℕ} → left < p → distance p left < 32 → action < 256
      → Longer p (Product action left None) ((0x4000 + distance p left) ∷ action ∷ [])
  alone : {action left : ℕ} → left < p → distance p left < 8192 → action < 65536
      → Longer p (Product action left None) (long_product action left all_ones)
  pair : {action left right : ℕ} → left < p → right < p → distance p right < 32 → distance p left < 256 → action < 65536
      → (right ≡ all_ones → ⊥)
      → Longer p (Product action left (Some right)) (long_product action left right)
  evaluated : {symbol : ℕ} → symbol < 4096 → Longer p (Evaluated symbol) (0xA000 ∷ 0 ∷ low symbol ∷ high symbol ∷ [])
  nulling : {symbol : ℕ} → symbol < 4096 → Longer p (NullingLeaf symbol) (0xA001 ∷ 0 ∷ low symbol ∷ high symbol ∷ [])

-- Units that spell a node and begin otherwise than its own are 12, seen at the head.
not_own :
    (s : List ℕ) (p x : ℕ) (n : Node) (u : ℕ) (us : List ℕ) → p < length s → get_or s p 0 ≡ x → (x ≡ filler → ⊥) → spelt s p ≡ Some n
    → units_at p n ≡ u ∷ us → (x ≡ u → ⊥) → read_units s p ≡ refused no_node p nothing
not_own s p x n u us before is no_filler like own other =
    let at : head_from s p ≡ p = head-here s p before (λ e. no_filler (sym is ∙ e)) in
    read_head-fault s p n (omega (arith, at))
    (subst (λ h. spelt s h ≡ Some n) (sym at) like)
    (subst (λ h. head_right s h (units_at h n) ≡ false) (sym at)
    (ap (head_right s p) own ∙ other-head s p u us (λ e. other (sym is ∙ e))))
    ∙ ap (λ h. refused no_node h nothing) at

pub longer_is_12 :
    (s : List ℕ) (p : ℕ) {n : Node} {us : List ℕ} → Longer p n us → stand s p us ≡ true → read_units s p ≡ refused no_node p nothing
unfolding stand long_product
longer_is_12 s p (sum {count = c} {nonterminal = n} hc hn) st =
    let f : S.Four s p (0xE000 + high c) (low c) (high n * 65536 + low n) = S.four_stand s p _ _ _ _ _ st in
    not_own s p (0xE000 + high c) (Sum c n) _ _ (S.first-stands s p _ _ st).first.within f.head (λ e. omega (arith, e))
    (Sp.long-sum s p _ c n (omega arith) f.head f.second (f.value ∙ Sp.halves n))
    (due-sum p c n hc hn) (λ e. omega (arith, e))
longer_is_12 s p (middle {action = a} {left = l} before hl ha) st =
    let f : S.First s p (0x4000 + distance p l) (a ∷ []) = S.first-stands s p _ _ st in
    not_own s p (0x4000 + distance p l) (Product a l None) _ _ f.first.within f.first.there (λ e. omega (arith, e))
    (Sp.middle-alone s p _ (distance p l) a l (omega arith) f.first.there (S.first-stands s (p + 1) _ _ f.others).first.there
    (Sp.factor_back p l before))
    (due-short p a l before hl ha) (λ e. omega (arith, e))
longer_is_12 s p (alone {action = a} {left = l} before hl ha) st = on (both_below (distance p l) 32 a 256) refl
  where
    spells : spelt s p ≡ Some (Product a l None)
    spells = Sp.product-spells s p a l all_ones None (omega arith) Sp.long_none st

    begins : get_or s p 0 ≡ 0xC000 + high a
    begins = (S.first-stands s p _ _ st).first.there

    on : (t : Bool) → both_below (distance p l) 32 a 256 ≡ t → read_units s p ≡ refused no_node p nothing
    on true e =
        let b : BothBelow (distance p l) 32 a 256 = below (sym e) refl in
        not_own s p (0xC000 + high a) (Product a l None) _ _ (S.first-stands s p _ _ st).first.within begins (λ e. omega (
          arith,
          e,
        ))
        spells (due-short p a l before b.first b.second) (λ e. omega (arith, e, b.first, b.second))
    on false e =
        not_own s p (0xC000 + high a) (Product a l None) _ _ (S.first-stands s p _ _ st).first.within begins (λ e. omega (
          arith,
          e,
        ))
        spells (due-middle p a l before e hl ha) (λ e. omega (arith, e))
longer_is_12 s p (pair {action = a} {left = l} {right = r} left-before right-before hr hl ha present) st =
    not_own s p (0xC000 + high a) (Product a l (Some r)) _ _ (S.first-stands s p _ _ st).first.within (S.first-stands s p _ _ st).first.there
    (λ e. omega (arith, e)) (Sp.product-spells s p a l r (Some r) (omega arith) (Sp.long_present r (ne_eqb r all_ones present)) st)
    (due-pair p a l r left-before right-before hr hl ha present) (λ e. omega (arith, e))
longer_is_12 s p (evaluated {symbol = n} h) st =
    let f : S.Four s p 0xA000 0 (high n * 65536 + low n) = S.four_stand s p _ _ _ _ _ st in
    not_own s p 0xA000 (Evaluated n) _ _ (S.first-stands s p _ _ st).first.within f.head (λ e. omega (arith, e))
    (Sp.wide_evaluated s p _ n f.head (f.value ∙ Sp.halves n)) (due-evaluated p n h) (λ e. omega (arith, e))
longer_is_12 s p (nulling {symbol = n} h) st =
    let f : S.Four s p 0xA001 0 (high n * 65536 + low n) = S.four_stand s p _ _ _ _ _ st in
    not_own s p 0xA001 (NullingLeaf n) _ _ (S.first-stands s p _ _ st).first.within f.head (λ e. omega (arith, e))
    (Sp.wide_nulling s p _ n f.head (f.value ∙ Sp.halves n)) (due_nulling p n h) (λ e. omega (arith, e))
