-- The nodes of a body up to its end.
use Rattle.std.specs.Prelude.{◌≡◌, ℕ, ◌+◌, ◌≤◌, ◌⊎◌, List, [], ◌∷◌, length}
use Rattle.rows.specs.Has.{Has}
use Rattle.rows.specs.Nodes.{Node, n_end, nodes_row}
use Rattle.rows.specs.NodeTags.{tag_of}
use Rattle.rows.specs.declared.tag.Tag.TheVariants.{End}
use Rattle.limits.specs.declared.nodes.Body.{Body}

-- an end stands last, and nowhere else
pub data Closed : List Node → Type 0 where
  last : Closed (n_end ∷ [])
  before : (t : Node) (ts : List Node) → (tag_of t ≡ End → ⊥) → Closed ts → Closed (t ∷ ts)

-- all nodes were passed, or those up to the end are left
pub record NodesLeft (w : List ℕ) (s : Body) (ts : List Node) : Type 0 where
  pub lent : s.row.now ≡ w
  pub here : Has w s.here (nodes_row ts)
  pub ends : ((ts ≡ []) × (s.left ≡ 0)) ⊎ (Closed ts × (length w ≤ s.here + s.left))
