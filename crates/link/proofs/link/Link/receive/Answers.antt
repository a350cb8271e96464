use Rattle.std.proofs.Common.{ℕ, ◌+◌, List, ◌++◌, take, drop, sym, ap, ◌∙◌, arith}
use Rattle.std.proofs.lemmas.List.{append-nil}
use Rattle.rules.proofs.Laws.{all_lawful}
use Rattle.link.specs.Stream.{said}
use Rattle.link.proofs.Steps.{goes_turn, rest_turn, rest_more, length-left}
use Rattle.link.proofs.link.Link.receive.Goals as goal
use Rattle.link.proofs.link.Link.receive.Goals.{in-Some, in_default}

pub loop-rest-preserved : goal.loop-rest-preserved
loop-rest-preserved g c =
    let chunk = c.args.chunk.now in
    let rest = c.loop-rest.rest.now in
    let read = c.min-read.result in
    let written = c.loop-rest.written in
    let out = c.loop-rest.out in
    let next = c.advance-next.result in
    let within = c.advance-next.ensures.within in
    let some = c.advance-next.ensures.some in
    let few = c.loop-rest.invariant.1 in
    let less = c.loop-rest.invariant.2 in
    let long = length-left rest next.taken within in
    let goes = goes_turn chunk rest out c.match-next.out next.answer read next.taken written c.match-next.written c.loop-rest.invariant.0 few within in
    let lies = rest_turn chunk rest read next.taken c.loop-rest.invariant.0 few within in
    elim c.match-next.branch [
      | in-Some w ↦ (
        lies,
        omega (arith, long, few),
        omega (arith, long, few, within, less, some, w.written-is),
        goes (
            ap (λ (n : ℕ). take n c.match-next.out) w.written-is
            ∙ ap (λ (o : List ℕ). take (written + 13) o) w.out-is
            ∙ w.put.ensures.front
            ∙ ap (λ r. take written out ++ said r) (sym w.in-Some.is)
            ) c.loop-rest.invariant.3 c.advance-next.ensures.goes,
        ap (λ (n : ℕ). drop n c.match-next.out) w.written-is
            ∙ ap (λ (o : List ℕ). drop (written + 13) o) w.out-is
            ∙ w.put.ensures.rest
            ∙ rest_more out c.args.out.now written 13 c.loop-rest.invariant.4
            ∙ ap (λ (n : ℕ). drop n c.args.out.now) (sym w.written-is),
      )
      | in_default w ↦ (
        lies,
        omega (arith, long, few),
        omega (arith, long, few, within, less, some, w.written-is),
        goes (
            ap (λ (n : ℕ). take n c.match-next.out) w.written-is
            ∙ ap (λ (o : List ℕ). take written o) w.out-is
            ∙ sym (append-nil (take written out))
            ∙ ap (λ r. take written out ++ said r) (sym w.in_default.is)
            ) c.loop-rest.invariant.3 c.advance-next.ensures.goes,
        ap (λ (n : ℕ). drop n c.match-next.out) w.written-is
            ∙ ap (λ (o : List ℕ). drop written o) w.out-is
            ∙ c.loop-rest.invariant.4
            ∙ ap (λ (n : ℕ). drop n c.args.out.now) (sym w.written-is),
      )
    ]

pub returns-clause-laws : goal.returns-clause-laws
returns-clause-laws g c = λ ram rom card_a card_b before s. all_lawful ram rom card_a card_b _
