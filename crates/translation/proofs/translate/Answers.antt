-- `translation::translate` meets its contract: the answers in their order.
use Rattle.std.proofs.Common.{List, ℕ, subst}
use Rattle.written.specs.Answers.{Answer, Translates}
use Rattle.translation.proofs.Answering.{start_gone, start-stays}
use Rattle.translation.proofs.translate.Goals as goal

pub returns-in_default-clause-answers : goal.returns-in_default-clause-answers
returns-in_default-clause-answers c = Translates.malformed c.in_default.ensures

pub returns-then-circular-clause-answers : goal.returns-then-circular-clause-answers
returns-then-circular-clause-answers c =
    let read = c.in-Some.ensures in
    subst (λ (b : List ℕ). Translates b c.args.file.now (Answer.refused 17) c.args.file.now) read.0 (Translates.circular read.1 (c.circular.ensures.if_yes c.if-circular.true))

pub returns-then-not-all_fruitful-clause-answers : goal.returns-then-not-all_fruitful-clause-answers
returns-then-not-all_fruitful-clause-answers c =
    let read = c.in-Some.ensures in
    subst (λ (b : List ℕ). Translates b c.args.file.now (Answer.refused 18) c.args.file.now) read.0
    (Translates.barren read.1 (c.circular.ensures.if_no c.if-circular.false) (c.all_fruitful.ensures.not c.if-not-all_fruitful.true))

pub returns-then-not-all_reachable-clause-answers : goal.returns-then-not-all_reachable-clause-answers
returns-then-not-all_reachable-clause-answers c =
    let read = c.in-Some.ensures in
    subst (λ (b : List ℕ). Translates b c.args.file.now (Answer.refused 19) c.args.file.now) read.0
    (Translates.unreachable read.1 (c.circular.ensures.if_no c.if-circular.false) (c.all_fruitful.ensures.all c.if-not-all_fruitful.false)
    (c.all_reachable.ensures.not c.if-not-all_reachable.true))

pub returns-then-not-keep-start-clause-answers : goal.returns-then-not-keep-start-clause-answers
returns-then-not-keep-start-clause-answers c =
    let read = c.in-Some.ensures in
    subst (λ (b : List ℕ). Translates b c.args.file.now (Answer.refused 20) c.args.file.now) read.0
    (Translates.no_sentence read.1 (c.circular.ensures.if_no c.if-circular.false) (c.all_fruitful.ensures.all c.if-not-all_fruitful.false)
    (c.all_reachable.ensures.all c.if-not-all_reachable.false) (start_gone _ _ c.start.result c.staying.ensures c.start.ensures.0 c.if-not-keep-start.true))

pub translate_sound-requires : goal.translate_sound-requires
translate_sound-requires c = (
  c.all_fruitful.ensures.named c.if-not-all_fruitful.false,
  record {
    straight = c.circular.ensures.if_no c.if-circular.false;
    fruitful = c.all_fruitful.ensures.all c.if-not-all_fruitful.false;
    reachable = c.all_reachable.ensures.all c.if-not-all_reachable.false;
    sentence = start-stays _ _ c.start.result c.staying.ensures c.start.ensures.0 c.if-not-keep-start.false;
  },
  c.staying.ensures,
  c.empties.ensures,
)
