-- What is written never tells a parting, as the two engines agree.
use Rattle.std.proofs.Common.{◌≡◌, refl, sym, subst, ◌∙◌, Bool, true, false, not, ◌&&◌, ◌↔◌, List, [], ℕ, eqb, length, Option, None}
use Rattle.laws.specs.Decides.{Decides}
use Rattle.laws.proofs.Decides.{true_false, false_true, says_no, says-eqb, decide_alike}
use Rattle.demands.specs.Histories.{History}
use Rattle.agreement.specs.Compared.{Read, Plain}
use Rattle.agreement.proofs.Agreeing.{engines_agree}
use Rattle.compare.specs.declared.beginnings.Engine.{Engine}
use Rattle.compare.specs.Engines.{Follows, Reads, MainSays}
use Rattle.compare.specs.Compares.{NoRoom, Compares}
use Rattle.compare.specs.Text.{Lines}
use Rattle.compare.specs.Writes.{Answered, Written, AgreesIn}

-- Finished and all taken, as one answer.
both : (finished : Bool) (taken all : ℕ) {yes : Bool} → yes ≡ finished && eqb taken all → Decides yes ((taken ≡ all) × (finished ≡ true))
both true taken all is = subst (λ (b : Bool). Decides b ((taken ≡ all) × (true ≡ true))) (sym is) (says-eqb taken all (λ e. (e, refl)) (λ n p. n p.0))
both false taken all is = subst (λ (b : Bool). Decides b ((taken ≡ all) × (false ≡ true))) (sym is) (says_no (λ p. false_true p.1))

-- Of one token string the two say the same.
same_answers : {file ts : List ℕ} {number : ℕ} {said says : Bool} → MainSays file ts number said → (NoRoom number → ⊥) → Plain file ts says → says ≡ said
same_answers {file} {ts} {number} {said} {says} main room plain =
    decide_alike (record { if_yes = agree.0; if_no = λ e p. true_false (sym (agree.1 p) ∙ e) }) (both f.says.finished f.ended.taken (length ts) f.says.is)
  where
    start : Reads file main.words ts number said
    start = main.reads

    f : Follows file start.fresh.state start.fresh.words ts number said
    f = start.follows

    read : Read file start.fresh.state start.fresh.words [] ts f.ended f.says.finished
    read = record {
      history = History.fresh start.starts start.started;
      runs = f.runs;
      items = λ e. room (subst NoRoom (sym (f.refusal ∙ e)) NoRoom.items);
      queue = λ e. room (subst NoRoom (sym (f.refusal ∙ e)) NoRoom.queue);
      sets = λ e. room (subst NoRoom (sym (f.refusal ∙ e)) NoRoom.sets);
      units = λ e. room (subst NoRoom (sym (f.refusal ∙ e)) NoRoom.units);
      report = f.says.number;
      handle = f.says.handle;
      finishes = f.says.finishes;
    }

    agree : (says ≡ true) ↔ ((f.ended.taken ≡ length ts) × (f.says.finished ≡ true))
    agree = engines_agree read plain

not_itself : (b : Bool) → not b ≡ b → ⊥
not_itself true e = false_true e
not_itself false e = true_false e

-- The engines part nowhere.
pub part-nowhere : {file ts : List ℕ} {agreed stopped : ℕ} {parting : Option Engine} → Compares file ts agreed stopped parting → parting ≡ None
part-nowhere (Compares.all below whole) = refl
part-nowhere (Compares.no_room below fits main full) = refl
part-nowhere (Compares.parting {yes = said} below fits main room plain) = absurd (not_itself said (same_answers main room plain))

answer-agrees : {file rest text : List ℕ} → Answered file rest text → AgreesIn text
answer-agrees (Answered.refused fault written) = AgreesIn.refused written
answer-agrees (Answered.too_many checked many written) = AgreesIn.too_many written
answer-agrees {text = text} (Answered.compared checked few c) =
    AgreesIn.agreeing (subst (λ (p : Option Engine). Lines c.agreed c.stopped p text) (part-nowhere c.compares) c.lines)

-- So no parting is told.
pub written-agrees : {bytes rest text : List ℕ} → Written bytes rest text → AgreesIn text
written-agrees (Written.refused judged written) = AgreesIn.refused written
written-agrees (Written.answered judged answered) = answer-agrees answered
