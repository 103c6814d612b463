use Rattle.std.proofs.Common.{sym, subst, List, ℕ, ◌<◌, ◌≤◌, length}
use Rattle.std.proofs.lemmas.Result.{IfOk-weaker}
use Rattle.cbor_tree_reader.proofs.key_set.KeySet.add.Goals as goal
use Rattle.cbor_tree_reader.proofs.HeldKeys.{adds-short, adds-long}

pub returns-in-Ok-clause-added : goal.returns-in-Ok-clause-added
returns-in-Ok-clause-added c = λ ks h.
    let few = subst (λ (xs : List ℕ). length xs ≤ 16) (sym c.in-Ok.ensures.0) c.in-Ok.ensures.1 in
    IfOk-weaker c.insert_short.result _ _ (λ fresh e. adds-short ks c.args.bytes.now c.args.self.now h c.insert_short.new.all c.in-Ok.short fresh few c.in-Ok.ensures.0 e.1 e.0) c.insert_short.ensures.added

pub returns-in_ok-long-in-Err-clause-added : goal.returns-in_ok-long-in-Err-clause-added
returns-in_ok-long-in-Err-clause-added c = λ ks h.
    let is = c.in_ok-long-in-Err.ensures.copied in
    let many = subst (λ (xs : List ℕ). 16 < length xs) (sym is) c.in-Err.ensures in
    IfOk-weaker c.insert_long.result _ _ (λ fresh e. adds-long ks c.args.bytes.now c.args.self.now h c.insert_long.new.all c.in_ok-long-in-Err.long fresh many is e.1 e.0) c.insert_long.ensures.added
