use Rattle.std.proofs.Common.{◌≡◌, sym, ap, ◌∙◌, subst, ℕ, ◌<◌, arith}
use Rattle.std.proofs.lemmas.Result.{err_from_is_err_and}
use Rattle.node.specs.declared.Node.TheVariants.{Sum}
use Rattle.completion.specs.Pass.{append}
use Rattle.completion.specs.Sums.{greatest, pop_sum}
use Rattle.completion.specs.inner.Ready.{IsSet}
use Rattle.completion.specs.inner.Pending.{Pending}
use Rattle.item.specs.Item.{Item}
use Rattle.grammar.specs.inner.Decoded.{left_in}
use Rattle.parse.specs.WellFormed.{left_of}
use Rattle.completion.specs.declared.pass.Pass.{Pass as Lent}
use Rattle.completion.specs.Lent.{its_rules, pass_in}
use Rattle.completion.proofs.Charting.{Steady, steady_refl, steady_append, steady_pop}
use Rattle.completion.proofs.Counting.{greatest_rooted}
use Rattle.completion.proofs.Keeping.{kept_trans}
use Rattle.completion.proofs.Refusals.{complete-stopped}
use Rattle.completion.proofs.Soundness.{refused-sound}
use Rattle.completion.proofs.Stopping.{is_refusal}
use Rattle.completion.proofs.Summing.{sum_is}
use Rattle.completion.proofs.Waiting.{rules-length, item-left}
use Rattle.completion.proofs.pass.Pass.complete_sum.Goals as goal

-- The left side of the greatest entry's item, as it is read.
greatest-left : (its : Lent) → Pending (its_rules its) its.starts.now (pass_in its) → 0 < its.queued → (read : Item) (left : ℕ) → read ≡ greatest (pass_in its)
    → left ≡ left_in its.rules.now.words read.rule → left ≡ left_of (its_rules its) (greatest (pass_in its))
greatest-left its pending some read left is found =
    let few : (greatest (pass_in its)).rule < its.rules.now.count =
    omega (arith, pending.charted.rules _ (pending.sound.entries 0 some), rules-length its.rules.now.words its.rules.now.count) in
    item-left its.rules.now.words its.rules.now.count read (greatest (pass_in its)) left is few found

pub summands-requires-clause-rooted : goal.summands-requires-clause-rooted
summands-requires-clause-rooted c =
    let its = c.args.self.now in
    let left = greatest-left its c.requires.1 c.requires.3 _ _ c.greatest-greatest.ensures c.left.ensures.0 in
    rw (left, c.greatest-greatest.ensures) (greatest_rooted c.requires.0 (pass_in its) c.requires.1 c.requires.3)

pub pop_sum-requires : goal.pop_sum-requires
pop_sum-requires c =
    let its = c.args.self.now in
    let rs = its_rules its in
    let required = c.requires in
    let written = c.append-begun.ensures in
    let begun = subst (Steady rs its.starts.now (pass_in its)) (sym written.pass)
    (steady_append rs its.starts.now (pass_in its) _ (pass_in its) (steady_refl rs its.starts.now (pass_in its) required.1.sound required.1.charted)) in
    rw written.kept.3
    (record { sound = refused-sound 0 _ begun.sound; few_rules = required.0.rules_fit.few_rules; rules = begun.charted.rules })

pub returns-in_err-pop_sum-clause-pass : goal.returns-in_err-pop_sum-clause-pass
returns-in_err-pop_sum-clause-pass c =
    let its = c.args.self.now in
    let rs = its_rules its in
    let k = c.greatest-greatest.result.origin in
    let x = c.left.result in
    let written = c.append-begun.ensures in
    let popped = rw written.kept.3 at c.in_err-pop_sum.ensures.pass in
    let p = err_from_is_err_and c.from_residual.result c.from_residual.ensures.1 in
    rw (p.1, p.2)
    (sum_is rs its.starts.now its.rows.now k x (pass_in its) _ _ (ap (λ (i : Item). i.origin) c.greatest-greatest.ensures) (greatest-left its c.requires.1 c.requires.3 _ _ c.greatest-greatest.ensures c.left.ensures.0)
    (popped ∙ ap (pop_sum rs k x) (written.pass ∙ ap (λ (n : ℕ). append (Sum n x) (pass_in its)) c.summands.ensures))
    (sym (complete-stopped rs its.starts.now its.rows.now k x its.used _ (is_refusal _))))

pub complete-requires-clause-set : goal.complete-requires-clause-set
complete-requires-clause-set c =
    let its = c.args.self.now in
    let required = c.requires in
    let kept = kept_trans its c.append-begun.new.self c.pop_sum.new.self c.append-begun.ensures.kept c.in_ok-pop_sum.ensures.kept in
    let left = greatest-left its required.1 required.3 _ _ c.greatest-greatest.ensures c.left.ensures.0 in
    rw kept.4 (
      subst (λ (i : Item). IsSet its.starts.now i.origin) (sym c.greatest-greatest.ensures) (required.1.charted.origins _ (required.1.sound.entries 0 required.3)),
      omega (arith, left, required.0.rules_fit.lefts (greatest (pass_in its)).rule),
    )

pub complete-requires-clause-pass_fits : goal.complete-requires-clause-pass_fits
complete-requires-clause-pass_fits c =
    let its = c.args.self.now in
    let rs = its_rules its in
    let required = c.requires in
    let written = c.append-begun.ensures in
    let taken = c.in_ok-pop_sum.ensures in
    let begun = subst (Steady rs its.starts.now (pass_in its)) (sym written.pass)
    (steady_append rs its.starts.now (pass_in its) _ (pass_in its) (steady_refl rs its.starts.now (pass_in its) required.1.sound required.1.charted)) in
    let popped = subst (Steady rs its.starts.now (pass_in its)) (sym (rw written.kept.3 at taken.pass))
    (steady_pop rs its.starts.now (pass_in its) c.greatest-greatest.result.origin c.left.result _ begun) in
    let kept = kept_trans its c.append-begun.new.self c.pop_sum.new.self written.kept taken.kept in
    rw (kept.3, kept.4) (popped.sound, popped.charted)

pub returns-clause-pass : goal.returns-clause-pass
returns-clause-pass c =
    let its = c.args.self.now in
    let rs = its_rules its in
    let k = c.greatest-greatest.result.origin in
    let x = c.left.result in
    let written = c.append-begun.ensures in
    let taken = c.in_ok-pop_sum.ensures in
    let popped = rw written.kept.3 at taken.pass in
    let kept = kept_trans its c.append-begun.new.self c.pop_sum.new.self written.kept taken.kept in
    let completed = rw (kept.3, kept.4, kept.5) at c.complete.ensures.pass in
    sum_is rs its.starts.now its.rows.now k x (pass_in its) (pass_in c.pop_sum.new.self) _ (ap (λ (i : Item). i.origin) c.greatest-greatest.ensures) (greatest-left its c.requires.1 c.requires.3 _ _ c.greatest-greatest.ensures c.left.ensures.0)
    (popped ∙ ap (pop_sum rs k x) (written.pass ∙ ap (λ (n : ℕ). append (Sum n x) (pass_in its)) c.summands.ensures))
    completed
