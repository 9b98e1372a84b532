use mathlib.Core.Path.{ap}
use Rattle.std.proofs.lemmas.Result.{err_from_is_err_and}
use Rattle.definition_laws.proofs.Columns.{columns-short}
use Rattle.table.proofs.Shown.{held}
use Rattle.entry_points.specs.Answers.{entry_of}
use Rattle.entry_points.proofs.Parsing.{parsed, one_too_many, unread}
use Rattle.entry_points.proofs.parse_tokens.Goals as goal
use Rattle.entry_points.proofs.parse_tokens.Goals.{in-WholeHeader, in-SingleDeclaration}

pub declarations-read-requires : goal.declarations-read-requires
declarations-read-requires c = rw c.first_cursor.ensures (held c.requires)

pub lone_declaration-read-requires : goal.lone_declaration-read-requires
lone_declaration-read-requires c = rw c.first_cursor-in-SingleDeclaration.ensures (held c.requires)

pub returns-in_err-c : goal.returns-in_err-c
returns-in_err-c c =
    let p = err_from_is_err_and c.from_residual.result c.from_residual.ensures.1 in
    rw (p.1, p.2) (unread _ _ _ _ _ c.requires _ c.match-entry.read _ c.in_err-c.ensures (elim c.match-entry.branch [
      | in-WholeHeader w ↦ rw (w.w-is, w.d-is, w.v-is, w.read-is, w.in-WholeHeader.is) (rw w.first_cursor.ensures at w.declarations-read.ensures)
      | in-SingleDeclaration w ↦ rw (w.w-is, w.d-is, w.v-is, w.read-is, w.in-SingleDeclaration.is) (rw w.first_cursor-in-SingleDeclaration.ensures at w.lone_declaration-read.ensures)
    ]))

pub returns-in-SingleDeclaration-entry : goal.returns-in-SingleDeclaration-entry
returns-in-SingleDeclaration-entry c =
    one_too_many _ _ _ _ _ c.requires _ c.match-entry.read (elim c.match-entry.branch [
      | in-WholeHeader w ↦ rw (w.w-is, w.d-is, w.v-is, w.read-is, w.in-WholeHeader.is) (rw w.first_cursor.ensures at w.declarations-read.ensures)
      | in-SingleDeclaration w ↦ rw (w.w-is, w.d-is, w.v-is, w.read-is, w.in-SingleDeclaration.is) (rw w.first_cursor-in-SingleDeclaration.ensures at w.lone_declaration-read.ensures)
    ])
    _ c.in_ok-c.ensures (ap entry_of c.in-SingleDeclaration-entry.is) c.if-c-gt1.true

pub returns-in_default : goal.returns-in_default
returns-in_default c =
    parsed _ _ _ _ _ c.requires _ c.match-entry.read (elim c.match-entry.branch [
      | in-WholeHeader w ↦ rw (w.w-is, w.d-is, w.v-is, w.read-is, w.in-WholeHeader.is) (rw w.first_cursor.ensures at w.declarations-read.ensures)
      | in-SingleDeclaration w ↦ rw (w.w-is, w.d-is, w.v-is, w.read-is, w.in-SingleDeclaration.is) (rw w.first_cursor-in-SingleDeclaration.ensures at w.lone_declaration-read.ensures)
    ])
    _ c.in_ok-c.ensures (λ i. c.if-c-gt1.false)

pub returns-in_default-2 : goal.returns-in_default-2
returns-in_default-2 c =
    parsed _ _ _ _ _ c.requires _ c.match-entry.read (elim c.match-entry.branch [
      | in-WholeHeader w ↦ rw (w.w-is, w.d-is, w.v-is, w.read-is, w.in-WholeHeader.is) (rw w.first_cursor.ensures at w.declarations-read.ensures)
      | in-SingleDeclaration w ↦ rw (w.w-is, w.d-is, w.v-is, w.read-is, w.in-SingleDeclaration.is) (rw w.first_cursor-in-SingleDeclaration.ensures at w.lone_declaration-read.ensures)
    ])
    _ c.in_ok-c.ensures (λ i. let h = ap entry_of c.in_default.is in absurd cc)

pub invariant_of-parser : goal.invariant_of-parser
invariant_of-parser c = record { few = columns-short c.args.lexed.now.columns }

pub invariant_of-parser-in-SingleDeclaration : goal.invariant_of-parser-in-SingleDeclaration
invariant_of-parser-in-SingleDeclaration c = record { few = columns-short c.args.lexed.now.columns }
