-- All laws of every line of every list.
use Rattle.std.proofs.Common.{◌≡◌, List, ◌∷◌, sym, refl, ap, ◌∙◌, subst}
use Rattle.device.specs.Meaning.{Meaning}
use Rattle.frames.specs.Lines.{Line}
use Rattle.rules.specs.Machine.{Machine, fresh}
use Rattle.rules.specs.Step.{step, answer, after}
use Rattle.rules.specs.Laws.{LineLaws, Laws, Lawful}
use Rattle.frames.specs.declared.answer.Answer.{Answer}
use Rattle.rules.proofs.Rows.{first_row}
use Rattle.rules.proofs.Bytes.{byte_law, same_shape}
use Rattle.rules.proofs.Accesses.{read_law, write_law, refused_law}
use Rattle.rules.proofs.Wake.{New, wake_law}
use Rattle.rules.proofs.Arisings.{cause_law}

new : (ram rom card_a card_b : Meaning) → New (fresh ram rom card_a card_b)
new ram rom card_a card_b = record { calm = refl; awake = refl; no_cause = refl }

line_laws : (first : Machine) → New first → (ls : List Line) (l : Line) → LineLaws first ls l (answer (after first ls) l) (after first (l ∷ ls))
unfolding answer
line_laws first begun ls l = record {
  answered = refl;
  refusals = first_row (after first ls) l;
  bytes = λ s p h. byte_law first (l ∷ ls) s p;
  shape = same_shape first (l ∷ ls);
  reads = λ value e. read_law (after first ls) l value e;
  writes = write_law (after first ls) l;
  refused = refused_law (after first ls) l;
  waking = wake_law first begun ls l;
  causes = cause_law first begun ls l;
}

-- a line more, from where the lines led
pub laws_hold : (start end : Machine) (l : Line) (r : Answer) → r ≡ answer start l → end ≡ step start l → Laws start l r end
laws_hold start end l r er ee ram rom card_a card_b ls from =
    let first = fresh ram rom card_a card_b in
    subst (λ (x : Answer). LineLaws first ls l x end) (sym (er ∙ ap (λ (m : Machine). answer m l) from))
    (subst (λ (x : Machine). LineLaws first ls l (answer (after first ls) l) x) (sym (ee ∙ ap (λ (m : Machine). step m l) from))
    (line_laws first (new ram rom card_a card_b) ls l))

pub all_lawful : (ram rom card_a card_b : Meaning) (ls : List Line) → Lawful (fresh ram rom card_a card_b) ls
all_lawful ram rom card_a card_b ls newer older l split = line_laws (fresh ram rom card_a card_b) (new ram rom card_a card_b) older l
