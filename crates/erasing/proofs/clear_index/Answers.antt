use Rattle.erasing.proofs.Names.{index-cleared, index-none}
use Rattle.erasing.proofs.clear_index.Goals as goal

pub returns-then-w-eq-WORDS : goal.returns-then-w-eq-WORDS
returns-then-w-eq-WORDS c = index-cleared c.clear_names.ensures

pub returns-else-w-eq-WORDS : goal.returns-else-w-eq-WORDS
returns-else-w-eq-WORDS c = index-none _ c.if-w-eq-WORDS.false
