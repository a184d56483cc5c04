-- Words laid down one after another, and a tree walked piece by piece.
use Rattle.trees.specs.declared.table.Table.{Table}
use Rattle.std.proofs.Common.{◌≡◌, refl, sym, ap, subst, ◌∙◌, List, [], ◌∷◌, ◌++◌, append_assoc, ℕ, zero, suc, ◌+◌, ◌≤◌, ◌<◌, min, arith, length, set, length-append, Option, Some, None}
use native.Mathlib.Decide.{dec_lt}
use lib.Seq.{sets, length-sets, set_out}
use Rattle.forest.specs.Trees.{Tree, leaf, preorder}
use Rattle.forest.specs.Lists.{At, first}
use Rattle.forest.specs.Forests.{token, of_node, listed}
use Rattle.forest.specs.Stores.{node_at, trees_at}
use Rattle.trees.specs.inner.Walks.{Walks, FrontWalks, FrontWords, front_end, Reached, Picks, Laid, Walked, FrontWalked}
use Rattle.trees.specs.declared.Choice.{Choice}
use Rattle.trees.specs.declared.Choice.TheVariants.{Word, Chosen}
use Rattle.trees.proofs.Chosen.{kth}

-- Past the end nothing is laid down; and what is laid down behind is laid down after.
pub sets_past : (l : List ℕ) (i : ℕ) (vs : List ℕ) → length l ≤ i → sets l i vs ≡ l
sets_past l i [] past = refl
sets_past l i (a ∷ vs) past = ap (λ x. sets x (suc i) vs) (set_out l i a past) ∙ sets_past l (suc i) vs (omega arith)

pub sets-append : (l : List ℕ) (i : ℕ) (us vs : List ℕ) → sets l i (us ++ vs) ≡ sets (sets l i us) (i + length us) vs
sets-append l i [] vs = let e : i ≡ i + 0 = omega arith in ap (λ n. sets l n vs) e
sets-append l i (a ∷ us) vs =
    let e : suc i + length us ≡ i + suc (length us) = omega arith in
    sets-append (set l i a) (suc i) us vs ∙ ap (λ n. sets (sets (set l i a) (suc i) us) n vs) e

-- Nothing, one word, words and then more, and anything at the limit.
pub laid_none : (place : List ℕ) (at limit : ℕ) → at ≤ limit → Laid place at limit [] at place
laid_none place at limit within = record { next_is = omega arith; left_is = refl }

pub laid_word : {place left : List ℕ} {at limit next word : ℕ} → at < limit → next ≡ at + 1 → left ≡ set place at word
    → Laid place at limit (word ∷ []) next left
laid_word below is-next is-left = record { next_is = omega arith; left_is = is-left }

pub laid_then : {place left end : List ℕ} {at limit next last : ℕ} (us vs : List ℕ) → length place ≤ limit → Laid place at limit us next left
    → Laid left next limit vs last end → Laid place at limit (us ++ vs) last end
laid_then {place} {left} {end} {at} {limit} {next} {last} us vs reaches a b =
    record { next_is = counted; left_is = b.left_is ∙ ap (λ l. sets l next vs) a.left_is ∙ placed ∙ sym (sets-append place at us vs) }
  where
    counted : last ≡ min (at + length (us ++ vs)) limit
    counted = omega (arith, a.next_is, b.next_is, length-append us vs)

    placed : sets (sets place at us) next vs ≡ sets (sets place at us) (at + length us) vs
    placed = elim (dec_lt limit (at + length us)) [
      | yes over ↦
          (let here : length (sets place at us) ≤ next = omega (arith, a.next_is, length-sets place at us) in
          let there : length (sets place at us) ≤ at + length us = omega (arith, length-sets place at us) in
          sets_past (sets place at us) next vs here ∙ sym (sets_past (sets place at us) (at + length us) vs there))
      | no not ↦ (let e : next ≡ at + length us = omega (arith, a.next_is) in ap (λ n. sets (sets place at us) n vs) e)
    ]

pub laid-full : (place : List ℕ) (limit : ℕ) (words : List ℕ) → length place ≤ limit → Laid place limit limit words limit place
laid-full place limit words reaches = record { next_is = omega arith; left_is = sym (sets_past place limit words reaches) }

laid-long : {place left : List ℕ} {at limit next : ℕ} {words : List ℕ} → Laid place at limit words next left → length left ≡ length place
laid-long {place} {at = at} {words = words} a = ap length a.left_is ∙ length-sets place at words

-- What a choice tells.
pub worded : {store : List ℕ} {table : Table} {h k t : ℕ} {choice : Choice} → Picks store table h k choice → choice ≡ Word t
    → node_at store h ≡ token t
worded {store} {table} {h} {k} {t} picks is = told (subst (Picks store table h k) is picks)
  where
    told : Picks store table h k (Word t) → node_at store h ≡ token t
    told (Picks.word i) = i

pub record Onward (store : List ℕ) (table : Table) (h k action : ℕ) (front : Option (ℕ × ℕ)) (from number : ℕ) : Type 0 where
  pub front_low : front_end front ≤ h
  pub from_low : from < h
  pub front_walks : FrontWalks store table front
  pub walks : Walks store table from number
  pub reaches : (words : List ℕ) (d : Tree) → FrontWords store front words → At (trees_at store from) number d → Reached store h k (action ∷ words) d

pub onward : {store : List ℕ} {table : Table} {h k action from number : ℕ} {front : Option (ℕ × ℕ)} {choice : Choice} → Picks store table h k choice
    → choice ≡ Chosen action front from number → Onward store table h k action front from number
onward {store} {table} {h} {k} {action} {from} {number} {front} picks is = told (subst (Picks store table h k) is picks)
  where
    told : Picks store table h k (Chosen action front from number) → Onward store table h k action front from number
    told (Picks.chosen a b c d e) = record { front_low = a; from_low = b; front_walks = c; walks = d; reaches = e }

pub left_walks : {store : List ℕ} {table : Table} {h k : ℕ} {front : Option (ℕ × ℕ)} → FrontWalks store table front → front ≡ Some (h, k)
    → Walks store table h k
left_walks {store} {table} {h} {k} asked is = told (subst (FrontWalks store table) is asked)
  where
    told : FrontWalks store table (Some (h, k)) → Walks store table h k
    told (FrontWalks.left walks) = walks

-- A leaf has one tree.
leaf_at : (store : List ℕ) (h k t : ℕ) → node_at store h ≡ token t → k < length (trees_at store h) → At (trees_at store h) k (leaf t)
leaf_at store h k t is less =
    let trees : trees_at store h ≡ leaf t ∷ [] = ap (of_node (listed (node_at store) h)) is in
    subst (λ l. At l k (leaf t)) (sym trees) (only k (subst (λ l. k < length l) trees less))
  where
    only : (n : ℕ) → n < length (leaf t ∷ []) → At (leaf t ∷ []) n (leaf t)
    only zero less = first
    only (suc n) less = absurd (omega arith)

-- So far words of the k-th tree under h are laid down, and what is missing are those of a tree under `from`.
pub record Walking (store : List ℕ) (table : Table) (h k : ℕ) (place : List ℕ) (at limit : ℕ) (left : List ℕ) (from number next : ℕ) : Type 0 where
  pub low : from ≤ h
  pub walks : Walks store table from number
  pub words : List ℕ
  pub reached : (d : Tree) → At (trees_at store from) number d → Reached store h k words d
  pub laid : Laid place at limit words next left
  pub long : length left ≡ length place

module _ {store : List ℕ} {table : Table} {h k : ℕ} {place : List ℕ} {at limit : ℕ} where
  -- The walk goes on with a Product's last factor,
  pub walking_on : {left end : List ℕ} {from number next last action rest to : ℕ} {front : Option (ℕ × ℕ)} → length place ≤ limit
      → Walking store table h k place at limit left from number next
      → Onward store table from number action front to rest
      → FrontWalked store action front left next limit last end
      → Walking store table h k place at limit end to rest last
  walking_on {left} {end} {from} {number} {next} {last} {action} {rest} {to} {front} reaches so_far goes walked = record {
    low = omega (arith, so_far.low, goes.from_low);
    walks = goes.walks;
    words = so_far.words ++ (action ∷ walked.words);
    reached = λ d chosen. through d (goes.reaches walked.words d walked.front_words chosen);
    laid = laid_then so_far.words (action ∷ walked.words) reaches so_far.laid walked.laid;
    long = laid-long walked.laid ∙ so_far.long;
  }
    where
      through : (d : Tree) → Reached store from number (action ∷ walked.words) d → Reached store h k (so_far.words ++ (action ∷ walked.words)) d
      through d inner =
          let outer = so_far.reached inner.tree inner.chosen in
          record {
            tree = outer.tree;
            chosen = outer.chosen;
            spells = outer.spells ∙ ap (λ l. so_far.words ++ l) inner.spells ∙ sym (append_assoc so_far.words (action ∷ walked.words) (preorder d));
          }

  -- ends with the word of a leaf,
  module _ {left : List ℕ} {from number next : ℕ} (reaches : length place ≤ limit)
      (so_far : Walking store table h k place at limit left from number next) where
    ended : {end : List ℕ} {last : ℕ} (d : Tree) → At (trees_at store from) number d → Laid left next limit (preorder d) last end
        → Walked store h k place at limit last end
    ended {end} {last} d chosen laid =
        let whole = so_far.reached d chosen in
        record {
          tree = whole.tree;
          chosen = whole.chosen;
          laid = subst (λ l. Laid place at limit l last end) (sym whole.spells) (laid_then so_far.words (preorder d) reaches so_far.laid laid);
        }

    pub walking_word : {end : List ℕ} {last t : ℕ} → next < limit → node_at store from ≡ token t → last ≡ next + 1 → end ≡ set left next t
        → Walked store h k place at limit last end
    walking_word {t = t} below is is_last is-end =
        ended (leaf t) (leaf_at store from number t is so_far.walks.number) (laid_word below is_last is-end)

    -- or at the limit.
    pub walking_full : limit ≤ next → Walked store h k place at limit limit left
    walking_full full =
        let some = kth (trees_at store from) number so_far.walks.number in
        let e : limit ≡ next = omega (arith, so_far.laid.next_is) in
        let here : length left ≤ limit = omega (arith, so_far.long) in
        ended some.member some.at
        (subst (λ n. Laid left n limit (preorder some.member) limit left) e (laid-full left limit (preorder some.member) here))

-- A Product's action, alone or with the tree in front.
pub front-alone : {store place end : List ℕ} {action at limit next : ℕ} {front : Option (ℕ × ℕ)} → at < limit → front ≡ None → next ≡ at + 1
    → end ≡ set place at action → FrontWalked store action front place at limit next end
front-alone {store} below is is-next is-end =
    record { words = []; front_words = subst (λ f. FrontWords store f []) (sym is) FrontWords.empty; laid = laid_word below is-next is-end }

pub front-walked : {store place left end : List ℕ} {action at limit next last h k : ℕ} {front : Option (ℕ × ℕ)} → at < limit → length place ≤ limit
    → front ≡ Some (h, k) → next ≡ at + 1 → left ≡ set place at action → Walked store h k left next limit last end
    → FrontWalked store action front place at limit last end
front-walked {store} {action = action} below reaches is is-next is-left walked = record {
  words = preorder walked.tree;
  front_words = subst (λ f. FrontWords store f (preorder walked.tree)) (sym is) (FrontWords.left walked.chosen);
  laid = laid_then (action ∷ []) (preorder walked.tree) reaches (laid_word below is-next is-left) walked.laid;
}
