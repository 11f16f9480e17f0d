-- Each node above the last is opened; then all are finished.
use Rattle.std.proofs.Common.{[], ◌∷◌, ◌+◌, drop, arith}
use Rattle.std.proofs.lemmas.Result.{on_ok_weaker}
use Rattle.dom_model.specs.Definitions.{head_into}
use Rattle.dom_edit.proofs.KeepsNodesLemmas.{labels-then}
use Rattle.dom_content.proofs.{StillHeldLemmas.labels-none, AreNewerLemmas.first-newer, AreNewerLemmas.rest-newer, AreNewerLemmas.more-newer, PathSteps.down-first, PathSteps.down-first_old, PathSteps.down-held, PathSteps.down-may, PathSteps.down-room, PathSteps.down-next, PathSteps.down-close, PathSteps.down-close_room, PathSteps.down-end, PathSteps.down-more, PathSteps.down-last, HeadIntoLemmas.head-enters, HeadIntoLemmas.head-down, StaysLemmas.stays-then, MayDrawLemmas.rest-old, MayDrawLemmas.front-goes, MayDrawLemmas.goes-entered, MayDrawLemmas.entered-unfinished, MayDrawLemmas.goes-head}
use Rattle.dom_content.specs.Paths.{path_entered, numbers_of_copies}
use Rattle.dom_content.proofs.end_paths.head_along.Goals as goal

pub loop-next-init : goal.loop-next-init
loop-next-init c = record {
  down = rw c.new-partials.ensures.items
      (down-first c.args.world.now c.args.moves 0 (λ i ns. head_into c.args.moves i c.args.offset ns) c.args.into (c.args.first ∷ c.args.below.now) c.requires.whole c.requires.may c.requires.way c.requires.room);
  kept = labels-none c.args.world.now;
  left = λ still a h newer l. (rw c.new-partials.ensures.items newer, l);
}

pub open_head-requires-clause-whole : goal.open_head-requires-clause-whole
open_head-requires-clause-whole c = c.loop-next.invariant.down.stays_whole

pub open_head-requires-clause-may : goal.open_head-requires-clause-may
open_head-requires-clause-may c =
    let whole = head_into c.args.moves c.args.into c.args.offset (c.args.first ∷ c.args.below.now) in
    down-may c.args.world.now c.loop-next.world c.args.moves 0 whole (λ i ns. head_into c.args.moves i c.args.offset ns) c.loop-next.partials.items c.loop-next.here c.loop-next.node (drop c.loop-next.next-index c.args.below.now) c.loop-next.invariant.down

pub open_head-requires-clause-no_data : goal.open_head-requires-clause-no_data
open_head-requires-clause-no_data c =
    let whole = head_into c.args.moves c.args.into c.args.offset (c.args.first ∷ c.args.below.now) in
    let t = (down-more c.args.world.now c.loop-next.world c.args.moves 0 whole (λ i ns. head_into c.args.moves i c.args.offset ns) c.loop-next.partials.items c.loop-next.here c.loop-next.node c.args.below.now c.loop-next.next-index c.loop-next.invariant.down c.next-item.result c.next-item.is c.loop-next-test.true) in
    t.way.0

pub open_head-requires-clause-held : goal.open_head-requires-clause-held
open_head-requires-clause-held c =
    let whole = head_into c.args.moves c.args.into c.args.offset (c.args.first ∷ c.args.below.now) in
    down-held c.args.world.now c.loop-next.world c.args.moves 0 whole (λ i ns. head_into c.args.moves i c.args.offset ns) c.loop-next.partials.items c.loop-next.here c.loop-next.node (drop c.loop-next.next-index c.args.below.now) c.loop-next.invariant.down

pub open_head-requires-clause-room : goal.open_head-requires-clause-room
open_head-requires-clause-room c =
    let whole = head_into c.args.moves c.args.into c.args.offset (c.args.first ∷ c.args.below.now) in
    let more = drop (c.loop-next.next-index + 1) c.args.below.now in
    down-room c.args.world.now c.loop-next.world c.args.moves 0 whole (λ i ns. head_into c.args.moves i c.args.offset ns) c.loop-next.partials.items c.loop-next.here c.loop-next.node (c.next-item.result ∷ more)
    (down-more c.args.world.now c.loop-next.world c.args.moves 0 whole (λ i ns. head_into c.args.moves i c.args.offset ns) c.loop-next.partials.items c.loop-next.here c.loop-next.node c.args.below.now c.loop-next.next-index c.loop-next.invariant.down c.next-item.result c.next-item.is c.loop-next-test.true)
    (path_entered c.args.moves c.loop-next.here c.loop-next.node c.next-item.result)
    (λ w k. head-enters c.args.moves c.loop-next.here c.args.offset c.loop-next.node c.next-item.result more w)

pub loop-next-preserved : goal.loop-next-preserved
loop-next-preserved c =
    let whole = head_into c.args.moves c.args.into c.args.offset (c.args.first ∷ c.args.below.now) in
    let more = drop (c.loop-next.next-index + 1) c.args.below.now in
    let v = c.loop-next.world in
    let t = (down-more c.args.world.now c.loop-next.world c.args.moves 0 whole (λ i ns. head_into c.args.moves i c.args.offset ns) c.loop-next.partials.items c.loop-next.here c.loop-next.node c.args.below.now c.loop-next.next-index c.loop-next.invariant.down c.next-item.result c.next-item.is c.loop-next-test.true) in
    let n = c.loop-next.node in
    let o = down-first_old c.args.world.now c.loop-next.world c.args.moves 0 whole (λ i ns. head_into c.args.moves i c.args.offset ns) c.loop-next.partials.items c.loop-next.here c.loop-next.node (c.next-item.result ∷ more) t in
    let p = c.in_ok-partial.partial in
    let g = goes-entered v t.stays_whole t.low t.rising c.loop-next.here t.into n o t.way.0 c.args.moves c.next-item.result c.open_head.new.world c.in_ok-partial.ensures.entered c.in_ok-partial.ensures.stays in
    let u = entered-unfinished v t.stays_whole t.low t.rising c.loop-next.here t.into n o t.way.0 c.args.moves c.next-item.result c.open_head.new.world p c.in_ok-partial.ensures.entered c.in_ok-partial.ensures.copy c.in_ok-partial.ensures.inner c.in_ok-partial.ensures.children in
    let way = front-goes t.low v c.open_head.new.world g (c.next-item.result ∷ more) (rest-old t.low v.tree.forest n (c.next-item.result ∷ more) t.nodes) t.way.1 in
    record {
      down = rw c.in_ok-push.ensures.ok
          (down-next c.args.world.now c.loop-next.world c.args.moves 0 whole (λ i ns. head_into c.args.moves i c.args.offset ns) c.loop-next.partials.items c.loop-next.here c.loop-next.node (c.next-item.result ∷ more) t
          c.open_head.new.world (path_entered c.args.moves c.loop-next.here c.loop-next.node c.next-item.result) p
          (head-down v c.args.moves c.loop-next.here c.args.offset n c.next-item.result more p c.in_ok-partial.ensures.copy c.in_ok-partial.ensures.inner c.in_ok-partial.ensures.children)
          c.in_ok-partial.ensures.entered c.in_ok-partial.ensures.stays c.in_ok-partial.ensures.whole g u way);
      kept = labels-then c.args.world.now c.loop-next.world c.open_head.new.world c.loop-next.invariant.kept c.in_ok-partial.ensures.kept;
      left = λ still a h newer l.
          let k = c.loop-next.invariant.left still a h newer l in
          let copies = numbers_of_copies c.loop-next.partials.items in
          let here = first-newer a c.loop-next.here copies k.0 in
          let two = c.in_ok-partial.ensures.begun a h here k.1 in
          (rw c.in_ok-push.ensures.ok (more-newer a c.loop-next.partials.items p (rest-newer a c.loop-next.here copies k.0) two), c.open_head.ensures.left still a h here k.1);
    }

pub head_of_last-requires-clause-whole : goal.head_of_last-requires-clause-whole
head_of_last-requires-clause-whole c = c.loop-next.invariant.down.stays_whole

pub head_of_last-requires-clause-may : goal.head_of_last-requires-clause-may
head_of_last-requires-clause-may c =
    let whole = head_into c.args.moves c.args.into c.args.offset (c.args.first ∷ c.args.below.now) in
    down-may c.args.world.now c.loop-next.world c.args.moves 0 whole (λ i ns. head_into c.args.moves i c.args.offset ns) c.loop-next.partials.items c.loop-next.here c.loop-next.node (drop c.loop-next.next-index c.args.below.now) c.loop-next.invariant.down

pub head_of_last-requires-clause-held : goal.head_of_last-requires-clause-held
head_of_last-requires-clause-held c =
    let whole = head_into c.args.moves c.args.into c.args.offset (c.args.first ∷ c.args.below.now) in
    down-held c.args.world.now c.loop-next.world c.args.moves 0 whole (λ i ns. head_into c.args.moves i c.args.offset ns) c.loop-next.partials.items c.loop-next.here c.loop-next.node (drop c.loop-next.next-index c.args.below.now) c.loop-next.invariant.down

pub head_of_last-requires-clause-room : goal.head_of_last-requires-clause-room
head_of_last-requires-clause-room c =
    let whole = head_into c.args.moves c.args.into c.args.offset (c.args.first ∷ c.args.below.now) in
    down-room c.args.world.now c.loop-next.world c.args.moves 0 whole (λ i ns. head_into c.args.moves i c.args.offset ns) c.loop-next.partials.items c.loop-next.here c.loop-next.node []
    (down-last c.args.world.now c.loop-next.world c.args.moves 0 whole (λ i ns. head_into c.args.moves i c.args.offset ns) c.loop-next.partials.items c.loop-next.here c.loop-next.node c.args.below.now c.loop-next.next-index c.loop-next.invariant.down c.loop-next-test.false)
    (head_into c.args.moves c.loop-next.here c.args.offset (c.loop-next.node ∷ []))
    (λ w k. omega arith)

pub close_all-requires-clause-may : goal.close_all-requires-clause-may
close_all-requires-clause-may c =
    let whole = head_into c.args.moves c.args.into c.args.offset (c.args.first ∷ c.args.below.now) in
    let t = (down-last c.args.world.now c.loop-next.world c.args.moves 0 whole (λ i ns. head_into c.args.moves i c.args.offset ns) c.loop-next.partials.items c.loop-next.here c.loop-next.node c.args.below.now c.loop-next.next-index c.loop-next.invariant.down c.loop-next-test.false) in
    down-close c.args.world.now c.loop-next.world c.args.moves 0 whole (λ i ns. head_into c.args.moves i c.args.offset ns) c.loop-next.partials.items c.loop-next.here c.loop-next.node [] t
    c.head_of_last.new.world c.in_ok-head_of_last.ensures.drawn (goes-head c.loop-next.world t.stays_whole t.low t.rising c.loop-next.here t.into c.args.moves c.args.offset (c.loop-next.node ∷ []) t.nodes t.way c.head_of_last.new.world c.in_ok-head_of_last.ensures.drawn c.in_ok-head_of_last.ensures.stays)

pub close_all-requires-clause-room : goal.close_all-requires-clause-room
close_all-requires-clause-room c =
    let whole = head_into c.args.moves c.args.into c.args.offset (c.args.first ∷ c.args.below.now) in
    down-close_room c.args.world.now c.loop-next.world c.args.moves 0 whole (λ i ns. head_into c.args.moves i c.args.offset ns) c.loop-next.partials.items c.loop-next.here c.loop-next.node []
    (down-last c.args.world.now c.loop-next.world c.args.moves 0 whole (λ i ns. head_into c.args.moves i c.args.offset ns) c.loop-next.partials.items c.loop-next.here c.loop-next.node c.args.below.now c.loop-next.next-index c.loop-next.invariant.down c.loop-next-test.false)
    c.head_of_last.new.world c.in_ok-head_of_last.ensures.drawn

pub returns-clause-drawn : goal.returns-clause-drawn
returns-clause-drawn c =
    let whole = head_into c.args.moves c.args.into c.args.offset (c.args.first ∷ c.args.below.now) in
    on_ok_weaker c.close_all.result
    (down-end c.args.world.now c.loop-next.world c.args.moves 0 whole (λ i ns. head_into c.args.moves i c.args.offset ns) c.loop-next.partials.items c.loop-next.here c.loop-next.node []
    (down-last c.args.world.now c.loop-next.world c.args.moves 0 whole (λ i ns. head_into c.args.moves i c.args.offset ns) c.loop-next.partials.items c.loop-next.here c.loop-next.node c.args.below.now c.loop-next.next-index c.loop-next.invariant.down c.loop-next-test.false)
    c.head_of_last.new.world c.in_ok-head_of_last.ensures.drawn c.close_all.new.world)
    c.close_all.ensures.closed

pub returns-clause-stays : goal.returns-clause-stays
returns-clause-stays c =
    on_ok_weaker c.close_all.result
    (λ s. stays-then c.args.world.now c.loop-next.world c.close_all.new.world c.loop-next.invariant.down.still (stays-then c.loop-next.world c.head_of_last.new.world c.close_all.new.world c.in_ok-head_of_last.ensures.stays s))
    c.close_all.ensures.stays

pub returns-clause-kept : goal.returns-clause-kept
returns-clause-kept c =
    labels-then c.args.world.now c.loop-next.world c.close_all.new.world c.loop-next.invariant.kept
    (labels-then c.loop-next.world c.head_of_last.new.world c.close_all.new.world c.in_ok-head_of_last.ensures.kept c.close_all.ensures.kept)

pub returns-in_err-partial-clause-left : goal.returns-in_err-partial-clause-left
returns-in_err-partial-clause-left c still a h newer l =
    let k = c.loop-next.invariant.left still a h newer l in
    let copies = numbers_of_copies c.loop-next.partials.items in
    let here = first-newer a c.loop-next.here copies k.0 in
    c.open_head.ensures.left still a h here k.1

pub returns-in_err-push-clause-left : goal.returns-in_err-push-clause-left
returns-in_err-push-clause-left c still a h newer l =
    let k = c.loop-next.invariant.left still a h newer l in
    let copies = numbers_of_copies c.loop-next.partials.items in
    let here = first-newer a c.loop-next.here copies k.0 in
    c.open_head.ensures.left still a h here k.1

pub returns-in_err-head_of_last-clause-left : goal.returns-in_err-head_of_last-clause-left
returns-in_err-head_of_last-clause-left c still a h newer l =
    let k = c.loop-next.invariant.left still a h newer l in
    let copies = numbers_of_copies c.loop-next.partials.items in
    let here = first-newer a c.loop-next.here copies k.0 in
    c.head_of_last.ensures.left still a h here k.1

pub returns-clause-left : goal.returns-clause-left
returns-clause-left c still a h newer l =
    let k = c.loop-next.invariant.left still a h newer l in
    let copies = numbers_of_copies c.loop-next.partials.items in
    let here = first-newer a c.loop-next.here copies k.0 in
    c.close_all.ensures.left still a h (rest-newer a c.loop-next.here copies k.0) (c.head_of_last.ensures.left still a h here k.1)
