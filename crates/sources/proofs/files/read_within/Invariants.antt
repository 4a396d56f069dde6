-- `read_within`: the files read so far have the names so far, and what is left of the limit is for the others.
use Rattle.std.proofs.Common.{◌≡◌, ◌+◌, ◌≤◌, length, take, map, string_bytes}
use Rattle.std.specs.List.{flat_map}
use Rattle.sources.specs.declared.files.Source.{Source}
use Rattle.sources.proofs.files.read_within.Given as goal

abbrev pub invariant-loop-name : goal.invariant-loop-name
invariant-loop-name l =
    (map (λ (s : Source). string_bytes s.name) l.sources.items ≡ map string_bytes (take l.name-index l.names))
    × (length (flat_map (λ (s : Source). s.bytes.items) l.sources.items) + l.left ≤ l.limit)
