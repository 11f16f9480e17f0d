use Rattle.dom_ranges.proofs.static_ranges.Statics.is_valid.Goals as goal

pub are_valid-requires-clause-start_held : goal.are_valid-requires-clause-start_held
are_valid-requires-clause-start_held g c = c.requires.start_held _ c.ends-start.ensures

pub are_valid-requires-clause-end_held : goal.are_valid-requires-clause-end_held
are_valid-requires-clause-end_held g c = c.requires.end_held _ c.ends-start.ensures
