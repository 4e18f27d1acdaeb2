use Rattle.std.proofs.Common.{rules, arith, ◌≡◌, ◌∙◌, refl, true, min, length, take, drop, take_at}
use Rattle.node_state_file.proofs.Stored.{front}
use Rattle.node_state_file.proofs.memory_store.MemoryStoreStore.load.Goals as goal

pub returns : goal.returns
returns g c =
    let items = c.args.self.now.bytes.items in
    let n = c.min-count.result in
    let present : c.args.self.now.is_present ≡ true = search rules in
    let least : n ≡ min (length items) 1277 = search rules in
    let copied : c.copy_from_slice.new.self ≡ take n items = search rules in
    let long : length c.copy_from_slice.new.self ≡ n = search rules in
    rw present (omega (arith, least), take_at c.copy_from_slice.new.self (drop n c.args.buffer.now) n long ∙ copied ∙ front items n least, refl, omega arith)
