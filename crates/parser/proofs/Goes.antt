-- Where a call leaves the cursor. Assumes nothing.
use mathlib.Core.Path.{◌≡◌}
use mathlib.Core.List.{List}
use Prim.Native.Nat.{ℕ, ◌≤◌, ◌<◌}
use lib.IntN.{ℤ}
use Rattle.definition.specs.Answer.{Answer}
use Rattle.definition.specs.Table.{State, Reads}
use Rattle.definition_laws.specs.Every.{Every}
use Rattle.definition_laws.specs.Progress.{On, Past, Stays, MovesOn, MovesPast}
use Rattle.table.specs.Held.{state, Held}
use Rattle.table.specs.Reply.{Reply, ok, Nothing, Runs, Does, Moves}
use Rattle.table.specs.declared.Cursor.{Cursor}
use Rattle.table.proofs.Shown.{went}
use Rattle.parser.specs.Answers.{both_numbers}

module _ {c e : Cursor} {w d w' d' : List ℕ} {v v' : List ℤ} where
  module _ {X : Type 0} {f : Reads X} {r : Reply X} {x : X} (g : Does f c w d v r w' d' v') (h : Held c w d v) (q : r ≡ ok e x) where
    pub on : ((s : State) → On s.at (f s)) → c.at ≤ e.at
    on k = (k (state c h.table)).of _ (went (g.run h.table h.encodes) q).says

    pub past : ((s : State) → Past s.at (f s)) → c.at < e.at
    past k = (k (state c h.table)).of _ (went (g.run h.table h.encodes) q).says

    pub stays : ((s : State) → Stays s.at (f s)) → e.at ≡ c.at
    stays k = (k (state c h.table)).of _ (went (g.run h.table h.encodes) q).says

  module _ {f : State → Answer State} {r : Reply Nothing} {x : Nothing} (g : Moves f c w d v r w' d' v') (h : Held c w d v) (q : r ≡ ok e x) where
    pub moves-on : ((s : State) → MovesOn s.at (f s)) → c.at ≤ e.at
    moves-on k = (k (state c h.table)).of _ (went (g.run h.table h.encodes) q).says

    pub moves-past : ((s : State) → MovesPast s.at (f s)) → c.at < e.at
    moves-past k = (k (state c h.table)).of _ (went (g.run h.table h.encodes) q).says

  pub typed-on : {f : State → Answer (ℕ × ℕ × State)} {r : Reply (ℕ × ℕ)} {x : ℕ × ℕ} → Runs both_numbers f c w d v r w' d' v' → Held c w d v → r ≡ ok e x
      → ((s : State) → Every (λ (y : ℕ × ℕ × State). s.at ≤ y.2.at) (f s)) → c.at ≤ e.at
  typed-on g h q k = (k (state c h.table)).of _ (went (g.run h.table h.encodes) q).says
