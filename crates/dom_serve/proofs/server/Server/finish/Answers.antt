use Rattle.std.proofs.Common.{sym, ◌∙◌, inl, inr, tests, rules}
use Rattle.std.proofs.lemmas.Bool.{eqb-true}
use Rattle.dom_serve.proofs.FedLemmas.{Finishes-fed, Finishes-none, length-zero, some-items}
use Rattle.dom_serve.proofs.server.Server.finish.Goals as goal

pub returns-then-self-clause-finishes : goal.returns-then-self-clause-finishes
returns-then-self-clause-finishes g c = λ b bytes h.
    Finishes-fed b bytes c.args.self.now c.end_line.new.self _ _ c.end_line.result h (inl c.if-self.true) (c.end_line.ensures.fed b bytes h)

pub returns-then-is_empty-clause-finishes : goal.returns-then-is_empty-clause-finishes
returns-then-is_empty-clause-finishes g c = λ b bytes h. Finishes-none b bytes c.args.self.now _ h c.if-self.false
    (length-zero c.args.self.now.kept.items (sym c.args.self.now.kept.ok.0 ∙ eqb-true _ 0 (sym c.is_empty.ensures ∙ c.if-is_empty.true)))

pub returns-clause-finishes : goal.returns-clause-finishes
returns-clause-finishes g c = λ b bytes h.
    Finishes-fed b bytes c.args.self.now c.end_line-2.new.self _ _ c.end_line-2.result h (inr (some-items c.args.self.now.kept.items _ c.args.self.now.kept.ok.0 (sym c.is_empty.ensures ∙ c.if-is_empty.false))) (c.end_line-2.ensures.fed b bytes h)

pub returns-then-self-clause-passed : goal.returns-then-self-clause-passed
returns-then-self-clause-passed g c = search (tests, rules)

pub returns-then-self-clause-writer : goal.returns-then-self-clause-writer
returns-then-self-clause-writer g c = search (tests, rules)

pub returns-then-self-clause-by_line : goal.returns-then-self-clause-by_line
returns-then-self-clause-by_line g c = search (tests, rules)

pub returns-then-is_empty-clause-passed : goal.returns-then-is_empty-clause-passed
returns-then-is_empty-clause-passed g c = search (tests, rules)

pub returns-then-is_empty-clause-writer : goal.returns-then-is_empty-clause-writer
returns-then-is_empty-clause-writer g c = search (tests, rules)

pub returns-then-is_empty-clause-by_line : goal.returns-then-is_empty-clause-by_line
returns-then-is_empty-clause-by_line g c = search (tests, rules)

pub returns-clause-passed : goal.returns-clause-passed
returns-clause-passed g c = search (tests, rules)

pub returns-clause-writer : goal.returns-clause-writer
returns-clause-writer g c = search (tests, rules)

pub returns-clause-by_line : goal.returns-clause-by_line
returns-clause-by_line g c = search (tests, rules)
