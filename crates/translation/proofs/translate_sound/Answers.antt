-- `translation::translate_sound` meets its contract.
use Rattle.std.proofs.Common.{ap, ◌∙◌, arith}
use Rattle.std.proofs.lemmas.Result.{err_from_is_err_and}
use Rattle.written.specs.Translation.{number}
use Rattle.translation.proofs.Words.{lists_from}
use Rattle.translation.proofs.Answering.{many_symbols, few-new, many_rules, few_bytes, tokens-below, all-written, done}
use Rattle.translation.proofs.translate_sound.Goals as goal

pub returns-then-wrapper-gt-SYMBOLS : goal.returns-then-wrapper-gt-SYMBOLS
returns-then-wrapper-gt-SYMBOLS c =
    let required = c.requires in
    let all = many_symbols _ c.end.ensures.2 required.1 _ _ required.2 required.3 _ _ _ (c.number-first.ensures.0 ∙ ap (number _) c.end.ensures.0) c.count_new.ensures.0 c.if-wrapper-gt-SYMBOLS.true in
    record { answers = all.0; promised = all.1 }

pub list-requires : goal.list-requires
list-requires c =
    let required = c.requires in
    few-new _ c.end.ensures.2 required.1 _ _ required.2 required.3 c.args.file.now _ _ (c.number-first.ensures.0 ∙ ap (number _) c.end.ensures.0) c.count_new.ensures.0 c.if-wrapper-gt-SYMBOLS.false

pub returns-in_err-list : goal.returns-in_err-list
returns-in_err-list c =
    let p = err_from_is_err_and c.from_residual.result c.from_residual.ensures.1 in
    let required = c.requires in
    let all =
    many_rules _ c.end.ensures.2 required.1 _ _ required.2 required.3 _ _ _ (c.number-first.ensures.0 ∙ ap (number _) c.end.ensures.0) c.count_new.ensures.0 c.if-wrapper-gt-SYMBOLS.false (lists_from c.new-list.ensures c.in_err-list.ensures).full in
    rw (p.1, p.2) (record { answers = all.0; promised = all.1 })

pub returns-then-file-length : goal.returns-then-file-length
returns-then-file-length c =
    let required = c.requires in
    let all =
    few_bytes _ c.end.ensures.2 required.1 _ _ required.2 required.3 _ _ _ (c.number-first.ensures.0 ∙ ap (number _) c.end.ensures.0) c.count_new.ensures.0 c.if-wrapper-gt-SYMBOLS.false _ _ (lists_from c.new-list.ensures c.in_ok-list.ensures).listed c.list.new.list.few c.if-file-length.true in
    record { answers = all.0; promised = all.1 }

pub write-requires : goal.write-requires
write-requires c =
    let required = c.requires in (
      c.list.new.list.few,
      tokens-below _ c.end.ensures.2 required.1 _ _ required.2 required.3 c.args.file.now _ _ (c.number-first.ensures.0 ∙ ap (number _) c.end.ensures.0) c.count_new.ensures.0 c.if-wrapper-gt-SYMBOLS.false _ c.tokens.ensures.0,
      c.if-wrapper-gt-SYMBOLS.false,
      omega (arith, c.number.ensures.1, c.start-s.ensures.1),
      c.if-file-length.false,
      all-written _ c.end.ensures.2 required.1 _ _ required.2 required.3 c.args.file.now _ _ (c.number-first.ensures.0 ∙ ap (number _) c.end.ensures.0) c.count_new.ensures.0 c.if-wrapper-gt-SYMBOLS.false _ _ (lists_from c.new-list.ensures c.in_ok-list.ensures).listed c.list.new.list.few _ c.tokens.ensures.0,
    )

pub returns : goal.returns
returns c =
    let required = c.requires in
    let all =
    done _ c.end.ensures.2 required.1 _ _ required.2 required.3 _ _ _ (c.number-first.ensures.0 ∙ ap (number _) c.end.ensures.0) c.count_new.ensures.0 c.if-wrapper-gt-SYMBOLS.false _ _ (lists_from c.new-list.ensures c.in_ok-list.ensures).listed c.list.new.list.few
    _ _ _ c.tokens.ensures.0 c.start-s.ensures.0 c.number.ensures.0 c.if-file-length.false _ c.write.ensures in
    record { answers = all.0; promised = all.1 }
