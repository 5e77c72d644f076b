use Rattle.std.proofs.Common.{◌≡◌, ℕ, ◌-◌, ◌*◌, ◌++◌}
use Rattle.std.specs.Prelude.{flat_map}
use Rattle.std.specs.List.{range_with_len}
use Rattle.ccr_model.specs.Restores.{bytes_at}
use Rattle.ccr_restore.specs.Places.{parts_in}
use Rattle.ccr_restore.proofs.finish.join_file.Given as goal

abbrev pub invariant-loop-part : goal.invariant-loop-part
invariant-loop-part l =
    l.bytes.items ++ flat_map {X = ℕ} {A = ℕ} (λ n. bytes_at l.fetch.parts.items (l.file, n * l.fetch.places.chunk_size)) (range_with_len l.part (parts_in l.fetch.places.chunk_size l.size - l.part))
    ≡ flat_map {X = ℕ} {A = ℕ} (λ n. bytes_at l.fetch.parts.items (l.file, n * l.fetch.places.chunk_size)) (range_with_len 0 (parts_in l.fetch.places.chunk_size l.size))
