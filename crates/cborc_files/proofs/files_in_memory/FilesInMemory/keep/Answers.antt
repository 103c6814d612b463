use Rattle.std.proofs.Common.{ℕ, string_bytes, Vec, Global, refl}
use Rattle.std.{specs.BTreeMap.get_by_text, proofs.lemmas.Map.Text.btree_map_updates_text}
use Rattle.cborc_files.proofs.files_in_memory.FilesInMemory.keep.Goals as goal
use Rattle.cborc_files.proofs.InMemory.{replaces}

-- the key has the path's bytes
pub returns-clause-put : goal.returns-clause-put
returns-clause-put c =
    let sets = btree_map_updates_text (string_bytes c.in_ok-path.path) c.args.self.now.by_path c.insert.new.self _ c.in_ok-insert.ensures.updates in
    replaces (λ (file : Vec ℕ Global). file.items) (get_by_text c.args.self.now.by_path) (get_by_text c.insert.new.self) c.args.path.now c.args.bytes
    (rw c.in_ok-path.ensures.ok at sets) c.args.bytes.items refl
