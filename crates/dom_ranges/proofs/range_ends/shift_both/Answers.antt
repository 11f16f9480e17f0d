use Rattle.std.proofs.Common.{◌≡◌, ℕ, ◌==◌, List, true, false, not, map, ap, sym, ◌∙◌}
use Rattle.std.proofs.Math.Path.{fun_ext}
use Rattle.std.proofs.lemmas.Bool.{eq-eqb, eqb-true, not-false, false≢true}
use Rattle.dom_chains.specs.Keyed.{Keyed, on_key}
use Rattle.dom_ranges.specs.{Ends.moved_end, Shifts.shifted}
use Rattle.dom_ranges.proofs.ShiftLemmas.{map-both, once-moved, twice-moved, second-can}
use Rattle.dom_ranges.proofs.range_ends.shift_both.Goals as goal

other : (a b : ℕ) → true ≡ not (b == a) → a ≡ b → ⊥
other a b h q = let y : (b == a) ≡ true = eq-eqb b a (sym q) in let z : true ≡ false = rw y at h in false≢true (sym z)

pub shift-requires-then-ne : goal.shift-requires-then-ne
shift-requires-then-ne c =
    let g = shifted c.args.by.now in
    rw c.shift.ensures
    (second-can c.args.first c.args.second g c.requires.apart c.requires.beside (other c.args.first c.args.second c.if-ne.ensures) c.args.ends.now.items c.args.ends.now.covered (c.requires.within c.args.second))

pub returns-then-ne : goal.returns-then-ne
returns-then-ne c =
    let g = shifted c.args.by.now in
    c.shift-then-ne.ensures
    ∙ ap (λ (k : Keyed ℕ). record k { items = map (on_key c.args.second (moved_end g)) k.items }) c.shift.ensures
    ∙ ap (λ (es : List (ℕ × ℕ)). record c.args.ends.now { items = es })
    (map-both (on_key c.args.second (moved_end g)) (on_key c.args.first (moved_end g)) (moved_end g) (twice-moved c.args.first c.args.second g c.requires.apart c.requires.beside (other c.args.first c.args.second c.if-ne.ensures)) c.args.ends.now.items)

pub returns-else-ne : goal.returns-else-ne
returns-else-ne c =
    let g = shifted c.args.by.now in
    c.shift.ensures
    ∙ ap (λ (f : ℕ × ℕ → ℕ × ℕ). record c.args.ends.now { items = map f c.args.ends.now.items })
    (fun_ext (once-moved c.args.first c.args.second g c.requires.apart c.requires.beside (sym (eqb-true c.args.second c.args.first (not-false (c.args.second == c.args.first) (sym c.if-ne.ensures))))))
