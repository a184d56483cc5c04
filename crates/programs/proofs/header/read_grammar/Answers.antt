-- The bytes behind the header leave it as it was read.
use Rattle.std.proofs.Common.{◌++◌, arith, drop, length-take-le}
use lib.Seq.{length_front}
use Rattle.programs.proofs.Headers.{told_bounds, says_same, read-rest}
use Rattle.programs.proofs.header.read_grammar.Goals as goal

pub returns-in-Ok-clause-far : goal.returns-in-Ok-clause-far
returns-in-Ok-clause-far g c =
    let header_read = c.read_full-first in
    let file = c.args.file.now in
    let front = header_read.new.buf in
    let part = c.read_full.new.buf in
    let says = says_same c.in-Ok.is c.told.ensures in
    let bounds = told_bounds _ _ says in
    let short = header_read.auto.buf in
    let long = length_front file front 11 short in
    let eleven = length-take-le 11 file (omega (arith, c.requires)) in
    (read-rest (front ++ drop 11 file) part _ header_read.result _ (omega (arith, header_read.ensures.place, short, eleven)) (omega (arith, long, c.requires)) says
    (omega (arith, bounds.0, c.read_full.auto.buf)) c.read_full.ensures.place.0).1
