-- The last registration of the node goes, as long as there are more.
use Rattle.std.proofs.Common.{◌≡◌, ℕ, ◌-◌, ◌<◌, ◌≤◌, true, false, List, [], ◌∷◌, length, take, drop, None, if◌then◌else◌, ◌==◌, refl, is_some, ap, sym, ◌∙◌, subst, arith, slice_index_or, take_all, filter_map}
use Rattle.std.specs.{List.AllByRecursion, Option.option_map_or}
use Rattle.dom_model.specs.Definitions.{Registration}
use Rattle.dom_observe.specs.{Watchers.on, Invariant.has_queue, Roster.is_there, Registrations.at, Registrations.found, Registrations.is_live, Registrations.StandsOn, Registrations.AllLive, Registrations.AllStand}
use Rattle.dom_observe.proofs.{AreRegisteredLemmas.are-live, OneGoneLemmas.live-length, OneGoneLemmas.all_split, OneGoneLemmas.last-drop, OneGoneLemmas.gone-agree, OneGoneLemmas.gone-sources, OneGoneLemmas.gone-none, OneGoneLemmas.gone-stand, OneGoneLemmas.gone-elsewhere, OneGoneLemmas.gone-keys, OneGoneLemmas.gone-kept, OneGoneLemmas.gone-rest, OneGoneLemmas.ends-last, OneGoneLemmas.length-last, OneGoneLemmas.last-stands, OneGoneLemmas.stands-there, NodeOrderLemmas.ends-alike, NodeOrderLemmas.goes-again}
use Rattle.dom_observe.proofs.transient_registrations.end_added.Goals as goal

pub added-init : goal.added-init
added-init c = record {
  sound = c.state_law.ensures;
  stand = c.requires.stand;
  passing = c.requires.passing;
  kept = refl;
  nodes = λ before full long come. come;
  elsewhere = λ n ne. refl;
  all_stand = λ there all. all;
  names = λ p none. none;
  indexed = λ lasts some there ix. ix;
  sources = λ have. have;
  agree = λ have. have;
  lasting = refl;
  queues = refl;
}

pub returns-clause-kept : goal.returns-clause-kept
returns-clause-kept c =
    let reg = c.added.registrations in
    let few : length (on c.args.node reg.lists) ≤ c.args.count = omega (arith, c.added-test.false, ap length c.keys_on.ensures) in
    sym (take_all c.args.count (found reg (on c.args.node reg.lists)) (omega (arith, few, live-length (at reg) (on c.args.node reg.lists) (are-live c.added.invariant.sound c.args.node))))
    ∙ c.added.invariant.kept

pub returns-clause-nodes : goal.returns-clause-nodes
returns-clause-nodes c = λ before full long come.
    let reg = c.added.registrations in
    let few : length (on c.args.node reg.lists) ≤ length (on c.args.node before) = omega (arith, c.added-test.false, ap length c.keys_on.ensures, long) in
    ends-alike c.args.node before reg.lists c.added.invariant.sound.full few (c.added.invariant.nodes before full long come)

pub end_transient-requires-clause-stand : goal.end_transient-requires-clause-stand
end_transient-requires-clause-stand c =
    let reg = c.added.registrations in
    let first : 0 < length (on c.args.node reg.lists) = omega (arith, c.added-test.true, ap length c.keys_on.ensures) in
    subst (λ (ks : List ℕ). StandsOn (at reg) (is_there c.added.roster) c.args.node (slice_index_or ks (length ks - 1) 0)) (sym c.keys_on-keys.ensures)
    (last-stands (at reg) (is_there c.added.roster) reg.lists c.args.node c.added.invariant.stand first)

pub end_transient-requires-clause-passing : goal.end_transient-requires-clause-passing
end_transient-requires-clause-passing c =
    let reg = c.added.registrations in
    let u = at reg in
    let node = c.args.node in
    let inv = c.added.invariant in
    let keys = on node reg.lists in
    let long : c.args.count < length keys = omega (arith, c.added-test.true, ap length c.keys_on.ensures) in
    let first : 0 < length keys = omega (arith, long) in
    let xs = take (length keys - 1) keys in
    let key = slice_index_or keys (length keys - 1) 0 in
    let s = last-stands u (is_there c.added.roster) reg.lists node inv.stand first in
    let ends = ends-last keys first in
    let live = all_split (λ k. is_live u k ≡ true) xs (key ∷ []) (subst (AllLive u) ends (are-live inv.sound node)) in
    let within : c.args.count ≤ length xs = omega (arith, length-last keys, long) in
    let rest = last-drop u c.args.count xs key s.registration live.0 s.is within (λ (t : Registration). is_some t.source ≡ true)
    (subst (λ ks. AllByRecursion (λ (t : Registration). is_some t.source ≡ true) (drop c.args.count (filter_map u ks))) ends inv.passing) in
    subst (λ (ks : List ℕ). option_map_or (λ (t : Registration). is_some t.source) (u (slice_index_or ks (length ks - 1) 0)) false ≡ true) (sym c.keys_on-keys.ensures)
    (ap (λ q. option_map_or (λ (t : Registration). is_some t.source) q false) s.is ∙ rest.1)

pub added-smaller : goal.added-smaller
added-smaller c =
    let reg = c.added.registrations in
    let u = at reg in
    let lists = reg.lists in
    let node = c.args.node in
    let inv = c.added.invariant in
    let keys = on node lists in
    let reg' = c.end_transient.new.registrations in
    let v = at reg' in
    let e = c.end_transient.ensures in
    let first : 0 < length keys = omega (arith, c.added-test.true, ap length c.keys_on.ensures) in
    let xs = take (length keys - 1) keys in
    let key = slice_index_or keys (length keys - 1) 0 in
    let is_key : slice_index_or c.keys_on-keys.result.now (length c.keys_on-keys.result.now - 1) 0 ≡ key = ap (λ (ks : List ℕ). slice_index_or ks (length ks - 1) 0) c.keys_on-keys.ensures in
    let left : (k : ℕ) → v k ≡ (if k == key then None else u k) = λ k. e.left k ∙ ap (λ j. if k == j then None else u k) is_key in
    let s = last-stands u (is_there c.added.roster) lists node inv.stand first in
    let on_it = stands-there u (is_there c.added.roster) node key s in
    let gone = gone-keys u v key left lists reg'.lists e.swept inv.sound.placed node on_it xs (ends-last keys first) inv.sound.once (are-live inv.sound node) in
    let fewer : length (on node reg'.lists) < length keys = omega (arith, ap length gone, length-last keys, first) in
    fewer

pub added-preserved : goal.added-preserved
added-preserved c =
    let reg = c.added.registrations in
    let u = at reg in
    let lists = reg.lists in
    let node = c.args.node in
    let inv = c.added.invariant in
    let keys = on node lists in
    let reg' = c.end_transient.new.registrations in
    let v = at reg' in
    let lists' = reg'.lists in
    let e = c.end_transient.ensures in
    let long : c.args.count < length keys = omega (arith, c.added-test.true, ap length c.keys_on.ensures) in
    let first : 0 < length keys = omega (arith, long) in
    let xs = take (length keys - 1) keys in
    let key = slice_index_or keys (length keys - 1) 0 in
    let is_key : slice_index_or c.keys_on-keys.result.now (length c.keys_on-keys.result.now - 1) 0 ≡ key = ap (λ (ks : List ℕ). slice_index_or ks (length ks - 1) 0) c.keys_on-keys.ensures in
    let left : (k : ℕ) → v k ≡ (if k == key then None else u k) = λ k. e.left k ∙ ap (λ j. if k == j then None else u k) is_key in
    let s = last-stands u (is_there c.added.roster) lists node inv.stand first in
    let r = s.registration in
    let on_it = stands-there u (is_there c.added.roster) node key s in
    let ends = ends-last keys first in
    let within : c.args.count ≤ length xs = omega (arith, length-last keys, long) in
    let rest = gone-rest u v key left lists lists' e.swept inv.sound.placed node on_it xs ends inv.sound.once (are-live inv.sound node) c.args.count within r s.is (λ (t : Registration). is_some t.source ≡ true) inv.passing in
    let gone = gone-keys u v key left lists lists' e.swept inv.sound.placed node on_it xs ends inv.sound.once (are-live inv.sound node) in
    record {
      sound = c.state_law-in-added.ensures;
      stand = subst (λ qs. AllStand v (has_queue qs) lists') (sym e.queues) (gone-stand u v key left lists lists' e.swept (is_there c.added.roster) inv.stand);
      passing = rest.0;
      kept = gone-kept u v key left lists lists' e.swept inv.sound.placed node on_it xs ends inv.sound.once (are-live inv.sound node) c.args.count within r s.is ∙ inv.kept;
      nodes = λ before full was come.
          goes-again node before lists lists' full first (λ bare. omega (arith, was, within, ap length gone, ap length bare)) e.nodes (inv.nodes before full was come);
      elsewhere = λ n ne. gone-elsewhere u v key left lists lists' e.swept inv.sound.placed node on_it n ne (are-live inv.sound n) ∙ inv.elsewhere n ne;
      all_stand = λ there all. gone-stand u v key left lists lists' e.swept there (inv.all_stand there all);
      names = λ p none. gone-none u v key left lists lists' e.swept p (inv.names p none);
      indexed = λ lasts some there ix. e.indexed lasts some there (inv.indexed lasts some there ix);
      sources = λ have. gone-sources u v key left r s.is rest.1 (inv.sources have);
      agree = λ have. gone-agree u v key left (inv.agree have);
      lasting = e.lasting ∙ inv.lasting;
      queues = e.queues ∙ inv.queues;
    }
