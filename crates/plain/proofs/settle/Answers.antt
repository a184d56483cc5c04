-- `plain::settle` meets its contract. One answer a return.
use Rattle.std.proofs.Common.{arith, length, sym}
use Rattle.plain.specs.Calls.{Settles}
use Rattle.plain.proofs.Standing.{up_to_small}
use Rattle.plain.proofs.Splitting.{bit-there}
use Rattle.plain.proofs.Keeping.{kept-room}
use Rattle.plain.proofs.Telling.{enough, short_settles, done_settles, filled-tells, empty_settles, empty-tells, whole-stretch, start-narrow, start_is}
use Rattle.plain.proofs.settle.Goals as goal

pub returns-then-not-ordinary-clause-table : goal.returns-then-not-ordinary-clause-table
returns-then-not-ordinary-clause-table c = Settles.no_token_lem (c.ordinary.ensures.if_no c.if-not-ordinary.true)

pub returns-then-n-gt-TOKENS-clause-table : goal.returns-then-n-gt-TOKENS-clause-table
returns-then-n-gt-TOKENS-clause-table c = Settles.too_many (c.ordinary.ensures.if_yes c.if-not-ordinary.false) c.if-n-gt-TOKENS.true

pub returns-then-n-eq0-clause-table : goal.returns-then-n-eq0-clause-table
returns-then-n-eq0-clause-table c = empty_settles c.if-n-eq0.true

pub returns-then-n-eq0-clause-sentences : goal.returns-then-n-eq0-clause-sentences
returns-then-n-eq0-clause-sentences c = empty-tells c.if-n-eq0.true

pub overflow_mul-needed : goal.overflow_mul-needed
overflow_mul-needed c =
    let n = length c.args.tokens.now in omega (arith, c.stretches_up_to-needed.ensures, up_to_small n n (omega arith) (omega (arith, c.if-n-gt-TOKENS.false)))

pub returns-then-table-needed-clause-table : goal.returns-then-table-needed-clause-table
returns-then-table-needed-clause-table c =
    short_settles c.stretches_up_to-needed.ensures (c.ordinary.ensures.if_yes c.if-not-ordinary.false) c.if-n-gt-TOKENS.false c.if-table-needed.true

pub has-yes-requires : goal.has-yes-requires
has-yes-requires c =
    let given = enough c.requires c.stretches_up_to-needed.ensures (c.ordinary.ensures.if_yes c.if-not-ordinary.false) c.if-n-gt-TOKENS.false c.if-table-needed.false in
    bit-there (kept-room given.room c.fill.ensures.0) (whole-stretch c.if-n-eq0.false) c.place.ensures (start-narrow c.args.grammar.now c.requires c.first.ensures.0)

pub returns-clause-table : goal.returns-clause-table
returns-clause-table c =
    let given = enough c.requires c.stretches_up_to-needed.ensures (c.ordinary.ensures.if_yes c.if-not-ordinary.false) c.if-n-gt-TOKENS.false c.if-table-needed.false in
    done_settles c.stretches_up_to-needed.ensures given c.fill.ensures.0 c.fill.ensures.1

pub returns-clause-sentences : goal.returns-clause-sentences
returns-clause-sentences c =
    let given = enough c.requires c.stretches_up_to-needed.ensures (c.ordinary.ensures.if_yes c.if-not-ordinary.false) c.if-n-gt-TOKENS.false c.if-table-needed.false in
    filled-tells given c.fill.ensures.0 c.fill.ensures.1 c.has-yes.result _ _ (whole-stretch c.if-n-eq0.false).some c.place.ensures
    (start_is c.args.grammar.now c.requires c.first.ensures.0) (sym c.has-yes.ensures)
