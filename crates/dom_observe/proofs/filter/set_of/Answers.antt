-- One more name comes into the set.
use Rattle.std.proofs.Common.{◌≡◌, ◌||◌, map, string_bytes, ap, sym, ◌∙◌, arith, slice_index_or, bytes_eq}
use Rattle.std.specs.List.{list_any}
use Rattle.std.proofs.lemmas.List.{take_all}
use Rattle.dom_observe.proofs.FilterSetLemmas.{named_so, sift-inserted, sift-next}
use Rattle.dom_observe.proofs.filter.set_of.Goals as goal

pub loop-name-init : goal.loop-name-init
loop-name-init c = λ name. ap (list_any (named_so name)) c.new-set.ensures.empty

pub loop-name-preserved : goal.loop-name-preserved
loop-name-preserved c = λ name.
    let names = c.args.names.now in
    let i = c.loop-name.name-index in
    let item = c.name-item.result in
    let same : string_bytes c.in_ok-copy.copy ≡ string_bytes (slice_index_or names i item) = c.in_ok-copy.ensures.ok ∙ c.as_str.ensures.value ∙ ap string_bytes c.name-item.is in
    ap (list_any (named_so name)) c.in_ok-insert.ensures.keys
    ∙ sift-inserted name c.loop-name.set.keys c.in_ok-copy.copy
    ∙ (λ j. c.loop-name.invariant name j || bytes_eq name (same j))
    ∙ sym (sift-next name names i item c.loop-name-test.true)

pub returns : goal.returns
returns c = λ name.
    c.loop-name.invariant name
    ∙ ap (λ ns. list_any (bytes_eq name) (map string_bytes ns)) (take_all c.loop-name.name-index c.args.names.now (omega (arith, c.loop-name-test.false)))
