use Rattle.derived_types.proofs.apply_step.Goals as goal

pub returns-in-Pointer : goal.returns-in-Pointer
returns-in-Pointer c = record { run = λ t h. rw c.in-Pointer.is (c.apply_pointer.ensures.run t h) }

pub returns-in-Array : goal.returns-in-Array
returns-in-Array c = record { run = λ t h. rw c.in-Array.is (c.apply_array.ensures.run t h) }

pub returns-in-Function : goal.returns-in-Function
returns-in-Function c = record { run = λ t h. rw c.in-Function.is (c.apply_function.ensures.run t h) }
