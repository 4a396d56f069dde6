-- The two loops over a body's nodes.
use Rattle.std.proofs.Common.{◌≡◌, ℕ, suc, List, [], ◌∷◌, ◌++◌, length, refl, ap}
use Rattle.rows.specs.Nodes.{Node}
use Rattle.rows.specs.Trees.{list_row}
use Rattle.steps.specs.Generate.{Scope}
use Rattle.generator.specs.Resolved.{resolve_node, resolve_nodes}
use Rattle.generator.specs.ResolvedRows.{node_words}

-- what nodes become
abbrev pub node_to : Scope → Node → List ℕ
node_to Γ t = node_words (resolve_node Γ t)

pub nodes_to : (Γ : Scope) (ns : List Node) → list_row (node_to Γ) ns ≡ list_row node_words (resolve_nodes Γ ns)
nodes_to Γ [] = refl
nodes_to Γ (t ∷ ts) = ap (λ (l : List ℕ). node_words (resolve_node Γ t) ++ l) (nodes_to Γ ts)

pub nodes-length : (Γ : Scope) (ns : List Node) → length (resolve_nodes Γ ns) ≡ length ns
nodes-length Γ [] = refl
nodes-length Γ (t ∷ ts) = ap suc (nodes-length Γ ts)
