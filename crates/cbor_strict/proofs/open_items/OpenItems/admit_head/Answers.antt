use Rattle.std.proofs.Common.{◌++◌, subst, inr}
use Rattle.std.proofs.lemmas.Result.{IfErr-weaker}
use Rattle.cbor_head.specs.Prelude.{strict}
use Rattle.cbor_strict.proofs.OpenHeads.{refused_head, begun_in, begun_no_memory, begun_kept, head_comes, map_head}
use Rattle.cbor_strict.proofs.open_items.OpenItems.admit_head.Goals as goal
use Rattle.cbor_strict.specs.inner.OpenItems.{IsRightResult}

pub unreachable-requires : goal.unreachable-requires
unreachable-requires c =
    let r = c.requires in
    head_comes r.b.depth r.come.fs _ r.x r.come.next r.come.taking (c.in_default.ensures c.args.event.now.width)

pub returns-in-Some-fault_of-clause-returned : goal.returns-in-Some-fault_of-clause-returned
returns-in-Some-fault_of-clause-returned c = λ b t x e h n m to.
    refused_head c.args.self.now b c.args.event.now c.in-Some.major c.in-Some.argument t x e c.in-Some-fault_of.reason _ c.args.taken to (c.in-Some.ensures c.args.event.now.width).0 h c.in-Some-fault_of.ensures m c.new.ensures

pub returns-in-Err-clause-returned : goal.returns-in-Err-clause-returned
returns-in-Err-clause-returned c = λ b t x e h n m to.
    begun_no_memory c.args.self.now b c.args.event.now.width c.args.event.now.kind t x e _ c.args.taken to h.fs h.around h.taken (begun_in c.args.self.now b c.args.event.now c.in-Some.major c.in-Some.argument t x e (c.in-Some.ensures c.args.event.now.width).0 h c.in-None.ensures) m c.at.ensures

pub begin-requires : goal.begin-requires
begin-requires c =
    let r = c.requires in
    let is = (c.in-Some.ensures c.args.event.now.width).0 in
    record {
      b = r.b;
      w = c.args.event.now.width;
      kind = c.args.event.now.kind;
      is = is;
      t = r.t;
      x = r.x;
      e = r.e;
      has = begun_kept c.args.self.now c.keep_head.new.self r.b c.args.event.now c.in-Some.major c.in-Some.argument r.t r.x r.e is r.come c.in-None.ensures c.keep_head.ensures.same.order c.keep_head.ensures.same.left c.in-Ok.ensures.kept;
      counted = r.counted;
      all = r.all;
    }

pub returns-in-Ok-clause-returned : goal.returns-in-Ok-clause-returned
returns-in-Ok-clause-returned c = λ b t x e h n m.
    let is = (c.in-Some.ensures c.args.event.now.width).0 in
    subst (λ o. IsRightResult (strict o) c.begin.new.self b e (t ++ x) c.begin.result) c.keep_head.ensures.same.order
    (c.begin.ensures.returned b c.args.event.now.width c.args.event.now.kind t x e is
    (begun_kept c.args.self.now c.keep_head.new.self b c.args.event.now c.in-Some.major c.in-Some.argument t x e is h c.in-None.ensures c.keep_head.ensures.same.order c.keep_head.ensures.same.left c.in-Ok.ensures.kept) n m)

pub returns-in-Ok-clause-needed : goal.returns-in-Ok-clause-needed
returns-in-Ok-clause-needed c = IfErr-weaker c.begin.result _ _ (λ f needed is. inr (map_head c.args.event.now.kind c.args.event.now.width c.in-Some.major c.in-Some.argument (c.in-Some.ensures c.args.event.now.width).0 (needed is))) c.begin.ensures.needed
