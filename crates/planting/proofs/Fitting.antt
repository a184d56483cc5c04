-- Why no node is unfit: in a pass that goes on, the handle of every item and the right factor of every entry lie before the used units.
use Rattle.std.proofs.Common.{◌≡◌, refl, sym, ◌∙◌, ap, subst, Bool, true, false, List, [], ◌∷◌, ◌↔◌, ◌⊎◌, inl, inr, ⊎_elim, ℕ, ◌+◌, ◌≤◌, ◌<◌, arith, length, leb, leb-true, leb-false, eq-eqb, ne_eqb, Some, None}
use native.Mathlib.Decide.{dec_lt, ℕ_discrete}
use borrow.Author.Tests.{lt-leb}
use Rattle.laws.specs.Counts.{once, count}
use Rattle.laws.specs.Turns.{until}
use Rattle.laws.proofs.Tests.{either_way}
use Rattle.laws.proofs.Turns.{until-keeps}
use Rattle.item.specs.Item.{Item, item_at, rule_at, handle_at}
use Rattle.binary_heap.specs.Entry.{Entry, entry_key}
use Rattle.binary_heap.specs.Sift.{entry_at}
use Rattle.binary_heap.proofs.Each.{Every}
use Rattle.binary_heap.proofs.PushLaws.{pushed_every}
use Rattle.binary_heap.proofs.PopLaws.{popped_every}
use Rattle.grammar.specs.Rules.{Rule}
use Rattle.node.specs.Choice.{pick}
use Rattle.node.specs.Rows.{all_ones, unfit, unfit_right, units_at, count_limit}
use Rattle.node.specs.Reading.{long_right}
use Rattle.node.specs.Answers.{values_of}
use Rattle.node.specs.Writing.{usable, place, write_units}
use Rattle.node.specs.declared.Node.{Node}
use Rattle.node.specs.declared.Node.TheVariants.{Sum}
use Rattle.node.proofs.Fit.{fit_row, row-size, product-fit, right-fit}
use Rattle.completion.specs.Pass.{Pass, store, enqueue, written, append, store_full}
use Rattle.completion.specs.Complete.{complete_medial_items, complete_unary_predictions, complete}
use Rattle.completion.specs.Sums.{is_of, summands, product_node, sum_ends, pop_greatest, next_summand}
use Rattle.completion.specs.inner.Ready.{IsSet, PassFits}
use Rattle.completion.proofs.Pushes.{goes_on}
use Rattle.completion.proofs.Entries.{entries_of, store_cases, enqueue_cases, append_cases, then_cases, pop_is, each_entry, entries-length, some-entries, queued_entries, popped-entries}
use Rattle.completion.proofs.Onward.{onward_store}
use Rattle.completion.proofs.Waiting.{store-place}
use Rattle.completion.proofs.Turning.{sum_goes}
use Rattle.completion.proofs.Through.{medial_items_keep, unary_predictions_go, binary_predictions_go, complete_cases}
use Rattle.completion.proofs.Charting.{Steady, steady_store, steady_enqueue, steady_append, steady_next, stored-new, pop_sound}

-- A node that is fit has units,
units-some : (p : ℕ) (n : Node) → unfit p n ≡ false → 0 < length (units_at p n)
units-some p n fit = subst (λ us. 0 < length us) (sym (fit_row p n fit)) (row-size p n).some

-- and is refused exactly where these do not fit.
module _ (s : Pass) where
  lacks : (us : List ℕ) → 0 < length us
      → ((written s (write_units s.units s.at.used us).store (values_of (write_units s.units s.at.used us).answer)).at.stopped ≡ store_full)
      ↔ (length (usable s.units) < s.at.used + length us)
  unfolding written write_units place
  lacks [] some = absurd (omega arith)
  lacks (u ∷ us) some = by (leb (s.at.used + length (u ∷ us)) (length (usable s.units))) refl
    where
      by : (b : Bool) → leb (s.at.used + length (u ∷ us)) (length (usable s.units)) ≡ b
          → ((written s (place s.units s.at.used (u ∷ us)).store (values_of (place s.units s.at.used (u ∷ us)).answer)).at.stopped ≡ store_full)
          ↔ (length (usable s.units) < s.at.used + length (u ∷ us))
      by true e = (
        (λ stopped. absurd (let never : ◌≡◌ {A = ℕ} 0 14 = rw (place, e) at stopped in omega arith)),
        λ full. absurd (omega (arith, leb-true (s.at.used + length (u ∷ us)) (length (usable s.units)) e)),
      )
      by false e = ((λ stopped. leb-false (s.at.used + length (u ∷ us)) (length (usable s.units)) e), λ full. rw (place, e) refl)

  pub append-lacks : (n : Node) → s.at.stopped ≡ 0 → unfit s.at.used n ≡ false
      → ((append n s).at.stopped ≡ store_full) ↔ (length (usable s.units) < s.at.used + length (units_at s.at.used n))
  unfolding append
  append-lacks n on fit =
      subst (λ (t : Pass). (t.at.stopped ≡ store_full) ↔ (length (usable s.units) < s.at.used + length (units_at s.at.used n)))
      (sym (goes_on s _ on)) (lacks (units_at s.at.used n) (units-some s.at.used n fit))

-- A right factor is all ones, for none, or lies before a position.
abbrev pub LowRight : ℕ → ℕ → Type 0
LowRight used right = (right ≡ all_ones) ⊎ (right < used)

low-more : {used now right : ℕ} → used ≤ now → LowRight used right → LowRight now right
low-more more (inl ones) = inl ones
low-more more (inr low) = inr (omega arith)

-- All handles and all right factors lie before the used units.
pub record Low (u : Pass) : Type 0 where
  pub handles : (p : ℕ) → p < u.at.items → handle_at u.items p < u.at.used
  pub rights : Every (λ e. LowRight u.at.used e.right) (entries_of u)

module _ (s : Pass) (sound : PassFits s) (low : Low s) where
  pub low-append : (n : Node) → Low (append n s)
  low-append n =
      append_cases Low s n low
      (λ us on is some room.
      record {
        handles = λ p there. omega (arith, low.handles p there);
        rights = record { each = λ i there. low-more (omega arith) (low.rights.each i there) };
      })
      (record { handles = low.handles; rights = low.rights })

  pub low_pop : 0 < s.at.queued → Low (pop_greatest s)
  low_pop some =
      pop_is Low s some
      (record {
        handles = low.handles;
        rights = subst (Every (λ e. LowRight s.at.used e.right)) (sym (popped-entries s sound.queued_fit some))
            (popped_every (entry_key s.items) (entries_of s) (some-entries s sound.queued_fit some) (λ e. LowRight s.at.used e.right) low.rights);
      })

  low-store : (k r link : ℕ) → link < s.at.used → Low (store k r link s)
  low-store k r link small = record { handles = handles; rights = rights }
    where
      same-used : (store k r link s).at.used ≡ s.at.used
      same-used = store_cases (λ (t : Pass). t.at.used ≡ s.at.used) s k r link (λ place. refl) refl

      handles : (p : ℕ) → p < (store k r link s).at.items → handle_at (store k r link s).items p < (store k r link s).at.used
      handles p there =
          elim (dec_lt p s.at.items) [
            | yes old ↦ omega (arith, same-used, low.handles p old, ap (λ (i : Item). i.handle) ((onward_store k r link s).same-items p old))
            | no new ↦ omega (arith, same-used, ap (λ (i : Item). i.handle) (stored-new k r link s sound p (omega arith) there))
          ]

      rights : Every (λ e. LowRight (store k r link s).at.used e.right) (entries_of (store k r link s))
      rights =
          store_cases (λ (t : Pass). Every (λ e. LowRight t.at.used e.right) (entries_of t)) s k r link (λ place. low.rights) low.rights

  low-enqueue : (p right : ℕ) → LowRight s.at.used right → Low (enqueue p right s)
  low-enqueue p right new =
      enqueue_cases Low s p right
      (λ free.
      record {
        handles = low.handles;
        rights = subst (Every (λ e. LowRight s.at.used e.right)) (sym (queued_entries s sound.queued_fit p right))
            (pushed_every (entry_key s.items) (entries_of s) (record { place = p; right = right }) (λ e. LowRight s.at.used e.right) low.rights new);
      })
      (record { handles = low.handles; rights = low.rights })

-- A pass on its way through a completion.
record Lowly (rs : List Rule) (starts : List ℕ) (s u : Pass) : Type 0 where
  pub steady : Steady rs starts s u
  pub used : u.at.used ≡ s.at.used
  pub low : Low u

module _ (rs : List Rule) (starts rows : List ℕ) (k x link : ℕ) (set : IsSet starts k) (s : Pass) (small : link < s.at.used) where
  lowly_store : (r : ℕ) (u : Pass) → r < length rs → Lowly rs starts s u → Lowly rs starts s (store k r link u)
  lowly_store r u rule l =
      record {
        steady = steady_store rs starts s k r link u set rule l.steady;
        used = store_cases (λ (t : Pass). t.at.used ≡ s.at.used) u k r link (λ place. l.used) l.used;
        low = low-store u l.steady.sound l.low k r link (omega (arith, l.used));
      }

  lowly_enqueue : (p right : ℕ) (u : Pass) → p < u.at.items → LowRight s.at.used right → Lowly rs starts s u
      → Lowly rs starts s (enqueue p right u)
  lowly_enqueue p right u there new l =
      record {
        steady = steady_enqueue rs starts s p right u there l.steady;
        used = enqueue_cases (λ (t : Pass). t.at.used ≡ s.at.used) u p right (λ free. l.used) l.used;
        low = low-enqueue u l.steady.sound l.low p right (low-more (omega (arith, l.used)) new);
      }

  -- Completing a pair whose node was written keeps all low.
  pub low-complete : Steady rs starts s s → Low s → Low (complete rs starts rows k x link s)
  low-complete steady low =
      (complete_cases rs starts rows k x link (Lowly rs starts s) s begun
      (λ there.
      binary_predictions_go rs starts rows k x link (λ r. Lowly rs starts s) (λ r u l. l) (λ r u begins two on l. lowly_store r u begins.is_rule l)
      (complete_unary_predictions rs rows k x link (complete_medial_items rs starts k x link s))
      (unary_predictions_go rs starts rows k x link (λ r. Lowly rs starts s) (λ r u l. l)
      (λ r u begins one on l.
      let stored : Lowly rs starts s (store k r link u) = lowly_store r u begins.is_rule l in
      then_cases (Lowly rs starts s) (store k r link u) _ stored
      (λ on. lowly_enqueue u.at.items all_ones (store k r link u) (store-place k r link u on) (inl refl) stored))
      (complete_medial_items rs starts k x link s)
      (medial_items_keep rs starts rows k x link (Lowly rs starts s)
      (λ p u inside second on l. lowly_enqueue p link u (omega (arith, inside.up_to, l.steady.charted.starts_fit (k + 1))) (inr small) l) s begun)))
      ).low
    where
      begun : Lowly rs starts s s
      begun = record { steady = steady; used = refl; low = low }

-- Writing a sum keeps all low, after each of its nodes.
pub record LowSteady (rs : List Rule) (starts : List ℕ) (s u : Pass) : Type 0 where
  pub steady : Steady rs starts s u
  pub low : Low u

module _ (rs : List Rule) (starts : List ℕ) (s : Pass) where
  low-next : (u : Pass) → 0 < u.at.queued → LowSteady rs starts s u → LowSteady rs starts s (next_summand u)
  unfolding next_summand
  low-next u some l =
      record {
        steady = steady_next rs starts s u some l.steady;
        low = low-append (pop_greatest u) (pop_sound u l.steady.sound some) (low_pop u l.steady.sound l.low some) (product_node u.items (entry_at u.queue 0));
      }

  pub low-summands : (k x n : ℕ) (m : Node) → Steady rs starts s s → Low s → LowSteady rs starts s (until n (sum_ends rs k x) next_summand (append m s))
  low-summands k x n m steady low =
      until-keeps (sum_ends rs k x) next_summand (LowSteady rs starts s) (λ u goes. low-next u (sum_goes rs k x u goes)) n (append m s)
      (record { steady = steady_append rs starts s m s steady; low = low-append s steady.sound low m })

-- The Product of a summand is fit,
pub product_is_fit : (rs : List Rule) (u : Pass) → length rs ≤ 2048 → PassFits u → ((p : ℕ) → p < u.at.items → rule_at u.items p < length rs) → Low u
    → 0 < u.at.queued → unfit u.at.used (product_node u.items (entry_at u.queue 0)) ≡ false
unfolding unfit long_right unfit_right
product_is_fit rs u few sound rules low some =
    let e : Entry = entry_at u.queue 0 in
    let there : e.place < u.at.items = sound.entries 0 some in
    product-fit
    (record {
      action_small = omega (arith, rules e.place there);
      left-before = low.handles e.place there;
      right-fit = by_right e.right (each_entry u sound.queued_fit (λ e. LowRight u.at.used e.right) low.rights 0 some);
    })
  where
    by_right : (right : ℕ) → (right ≡ all_ones) ⊎ (right < u.at.used) → unfit_right u.at.used (long_right right) ≡ false
    by_right right low =
        elim (ℕ_discrete right all_ones) [
          | yes ones ↦ ap (λ b. unfit_right u.at.used (pick b None (Some right))) (eq-eqb right all_ones ones)
          | no two ↦
              ap (λ b. unfit_right u.at.used (pick b None (Some right))) (ne_eqb right all_ones two)
              ∙ ⊎_elim (λ ones. absurd (two ones)) (λ low. right-fit low (ne_eqb right all_ones two)) low
        ]

-- and so is the Sum: there are no more summands than entries.
count-few : {A : Type 0} (test : A → Bool) (l : List A) → count test l ≤ length l
unfolding count
count-few test [] = omega arith
count-few test (a ∷ l) =
    let rest : count test l ≤ length l = count-few test l in
    either_way (test a) (λ e. omega (arith, ap once e)) (λ e. omega (arith, ap once e))

pub sum_is_fit : (rs : List Rule) (p k x : ℕ) (u : Pass) → PassFits u → unfit p (Sum (summands rs k x u) x) ≡ false
unfolding unfit
sum_is_fit rs p k x u sound =
    lt-leb count_limit (summands rs k x u)
    (omega (
      arith,
      count-few (λ (e : Entry). is_of rs k x (item_at u.items e.place)) (entries_of u),
      entries-length u sound.queued_fit,
      sound.queued_fit,
      sound.few_entries,
    ))
