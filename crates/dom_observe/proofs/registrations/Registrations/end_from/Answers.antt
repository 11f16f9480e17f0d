-- Only the keys between two places are gone through, and those are all that end.
use Rattle.std.proofs.Common.{◌++◌, take, drop, ap, sym, ◌∙◌, subst}
use Rattle.dom_model.specs.Definitions.{among}
use Rattle.dom_observe.specs.Registrations.{at, ByOrigin, IsFirstFrom, IsPast}
use Rattle.dom_observe.proofs.{EndFromLemmas.all_from, EndFromLemmas.drop-two, EndFromLemmas.whole-rest, EndFromLemmas.whole-part, EndFromLemmas.from-done, EndFromLemmas.from-keys, EndByNodeLemmas.all-done, OrderedLemmas.ordered-drop}
use Rattle.dom_observe.proofs.registrations.Registrations.end_from.Goals as goal

pub returns-clause-left : goal.returns-clause-left
returns-clause-left c =
    let u = at c.args.self.now in
    let v = at c.end_each.new.self in
    let o = c.args.observer in
    let n = c.args.node in
    let keys = c.args.keys.now.items in
    let first = c.place_from-first.result in
    let count = c.place_past.result in
    let had = c.as_slice.ensures.value in
    let begins : IsFirstFrom u n keys first = subst (λ ks. IsFirstFrom u n ks first) had (c.place_from-first.ensures.place (subst (ByOrigin u) (sym had) c.requires.ordered)) in
    let behind = whole-rest c.deref.result.now first ∙ ap (drop first) c.deref.ensures.value in
    let ends : IsPast u n (drop first keys) count = subst (λ ks. IsPast u n ks count) behind (c.place_past.ensures.place (subst (ByOrigin u) (sym behind) (ordered-drop u first keys c.requires.ordered))) in
    let part = whole-part c.deref-2.result.now first count ∙ ap (λ ks. take count (drop first ks)) c.deref-2.ensures.value in
    all-done (all_from o n) u v keys c.requires.owned c.end_each.ensures.between
    (from-done o n u v keys first count c.requires.owned begins ends c.end_each.ensures.between (λ k m. c.end_each.ensures.done k (ap (among k) part ∙ m)))

pub returns-clause-keys : goal.returns-clause-keys
returns-clause-keys c =
    let u = at c.args.self.now in
    let v = at c.end_each.new.self in
    let o = c.args.observer in
    let n = c.args.node in
    let keys = c.args.keys.now.items in
    let first = c.place_from-first.result in
    let count = c.place_past.result in
    let had = c.as_slice.ensures.value in
    let begins : IsFirstFrom u n keys first = subst (λ ks. IsFirstFrom u n ks first) had (c.place_from-first.ensures.place (subst (ByOrigin u) (sym had) c.requires.ordered)) in
    let behind = whole-rest c.deref.result.now first ∙ ap (drop first) c.deref.ensures.value in
    let ends : IsPast u n (drop first keys) count = subst (λ ks. IsPast u n ks count) behind (c.place_past.ensures.place (subst (ByOrigin u) (sym behind) (ordered-drop u first keys c.requires.ordered))) in
    let part = whole-part c.deref-2.result.now first count ∙ ap (λ ks. take count (drop first ks)) c.deref-2.ensures.value in
    c.cut.ensures ∙ ap (λ ks. take first keys ++ ks) (drop-two first count keys)
    ∙ sym (from-keys o n u v keys first count c.requires.owned begins ends c.end_each.ensures.between (λ k m. c.end_each.ensures.done k (ap (among k) part ∙ m)))
