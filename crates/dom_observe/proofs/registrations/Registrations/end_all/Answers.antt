-- Both lists are gone through, and nothing is left of either.
use Rattle.std.proofs.Common.{if◌then◌else◌, ap, sym, ◌∙◌, is_none, is_some}
use Rattle.dom_model.specs.Definitions.{Registration}
use Rattle.dom_observe.specs.{declared.registration.EndedRegistrations.TheVariants.Of, Watchers.on, Registrations.at, Registrations.is_live, Registrations.unless_ended}
use Rattle.dom_observe.proofs.{LeftByLemmas.filter_none, LeftByLemmas.stays_by, LeftByLemmas.swept-two, OwnedLemmas.left-of, OwnedLemmas.none-left_of, OwnedLemmas.passing-left_of}
use Rattle.dom_observe.proofs.registrations.Registrations.end_all.Goals as goal

pub end_own-requires-2 : goal.end_own-requires-2
end_own-requires-2 c = λ k.
    let o = c.args.observer in
    let u = at c.args.self.now in
    c.requires.passing k
    ∙ sym (passing-left_of o (u k) (at c.end_own.new.self k) (c.end_own.ensures.left k ∙ ap (λ b. if b then unless_ended (Of o) (u k) else u k) (c.requires.lasting k)))

pub returns-clause-left : goal.returns-clause-left
returns-clause-left c = λ k.
    let o = c.args.observer in
    let u = at c.args.self.now in
    let v = at c.end_own.new.self in
    let first = c.end_own.ensures.left k ∙ ap (λ b. if b then unless_ended (Of o) (u k) else u k) (c.requires.lasting k) in
    left-of o (u k) (v k) (at c.end_own-2.new.self k) first
    (c.end_own-2.ensures.left k ∙ ap (λ b. if b then unless_ended (Of o) (v k) else v k) (c.requires.passing k ∙ sym (passing-left_of o (u k) (v k) first)))

pub returns-clause-swept : goal.returns-clause-swept
returns-clause-swept c = λ n.
    swept-two (at c.end_own.new.self) (at c.end_own-2.new.self) (on n c.args.self.now.lists) (on n c.end_own.new.self.lists) (on n c.end_own-2.new.self.lists)
    (stays_by (at c.end_own.new.self) (at c.end_own-2.new.self) c.args.kept.now.passing.items (Of c.args.observer) c.end_own-2.ensures.left) (c.end_own.ensures.swept n) (c.end_own-2.ensures.swept n)

pub returns-clause-lasting : goal.returns-clause-lasting
returns-clause-lasting c =
    let o = c.args.observer in
    let u = at c.args.self.now in
    let v = at c.end_own.new.self in
    let keys = c.args.kept.now.lasting.items in
    c.end_own.ensures.keys
    ∙ filter_none (is_live v) keys
    (λ k m. ap is_some (c.end_own.ensures.left k ∙ ap (λ b. if b then unless_ended (Of o) (u k) else u k) m ∙ none-left_of o (λ (r : Registration). is_none r.source) (u k) (sym (c.requires.lasting k) ∙ m)))

pub returns-clause-passing : goal.returns-clause-passing
returns-clause-passing c =
    let o = c.args.observer in
    let u = at c.args.self.now in
    let v = at c.end_own.new.self in
    let w = at c.end_own-2.new.self in
    let keys = c.args.kept.now.passing.items in
    c.end_own-2.ensures.keys
    ∙ filter_none (is_live w) keys
    (λ k m.
    let first = c.end_own.ensures.left k ∙ ap (λ b. if b then unless_ended (Of o) (u k) else u k) (c.requires.lasting k) in
    ap is_some (c.end_own-2.ensures.left k ∙ ap (λ b. if b then unless_ended (Of o) (v k) else v k) m
    ∙ none-left_of o (λ (r : Registration). is_some r.source) (v k) (passing-left_of o (u k) (v k) first ∙ sym (c.requires.passing k) ∙ m)))
