use Rattle.table.proofs.note_value.Goals as goal

pub returns : goal.returns
returns c = rw (c.name_slot.ensures.0, c.from.ensures)
