use Rattle.std.proofs.Common.{◌++◌, ◌-◌, ℕ, List, IsTrue, refl, sym, ◌∙◌, arith, subst}
use Rattle.cbor_head.specs.{Canonical.canonical, Order.key_lt}
use Rattle.cbor_cursor.proofs.PairsLeft.{ArePairs, all_pairs, next_pair, no_pair}
use Rattle.cbor_cursor.proofs.lookup.value_start.Goals as goal
use Rattle.cbor_cursor.{specs.Items.BeginsWith, proofs.SpelledItems.canonical_item, proofs.SpelledItems.later_item, proofs.Slices.between}

pub loop-left-init : goal.loop-left-init
loop-left-init c = record { pairs = λ o es rest a. all_pairs o es (c.args.head.now ++ c.args.payload.now) c.args.count _ rest a; ends = c.requires }

pub returns-in_err-value-clause-pair : goal.returns-in_err-value-clause-pair
returns-in_err-value-clause-pair c = λ o es rest a.
    let n = next_pair o es _ c.loop-left.left _ rest c.loop-left-test.true (c.loop-left.invariant.pairs o es rest a) in
    absurd (c.in_err-value.ensures.item _ (canonical_item o n.k _ _ n.key_is))

pub returns-in-Equal-clause-pair : goal.returns-in-Equal-clause-pair
returns-in-Equal-clause-pair c = λ o es rest a.
    let n = next_pair o es _ c.loop-left.left _ rest c.loop-left-test.true (c.loop-left.invariant.pairs o es rest a) in
    let v = (c.in_ok-value.ensures.item _).0 (canonical_item o n.k _ _ n.key_is) in
    let w = c.in_ok-value.ensures.within in
    let cut = between c.args.bytes.now c.loop-left.at c.in_ok-value.value (canonical o n.k) n.after_key (omega (arith, w)) w.1 n.key_is.begins v in
    record {
      stored = n.k;
      value = n.v;
      has = n.has;
      key_is = sym cut ∙ c.in-Equal.ensures.equal.0 refl;
      before = n.before;
      after = n.after;
      pairs_are = n.split;
      begins = subst (BeginsWith o _ n.v) n.rest_is (subst (λ (l : List ℕ). BeginsWith o l n.v n.rest) (sym v) n.value_is);
    }

pub returns-in-After-clause-pair : goal.returns-in-After-clause-pair
returns-in-After-clause-pair c = λ o es rest a.
    let n = next_pair o es _ c.loop-left.left _ rest c.loop-left-test.true (c.loop-left.invariant.pairs o es rest a) in
    let v = (c.in_ok-value.ensures.item _).0 (canonical_item o n.k _ _ n.key_is) in
    let w = c.in_ok-value.ensures.within in
    let cut = between c.args.bytes.now c.loop-left.at c.in_ok-value.value (canonical o n.k) n.after_key (omega (arith, w)) w.1 n.key_is.begins v in
    n.none (subst (λ (x : List ℕ). IsTrue (key_lt o (c.args.head.now ++ c.args.payload.now) x)) cut (c.in-After.ensures.after.0 refl o))

pub returns-in_err-at-clause-pair : goal.returns-in_err-at-clause-pair
returns-in_err-at-clause-pair c = λ o es rest a.
    let n = next_pair o es _ c.loop-left.left _ rest c.loop-left-test.true (c.loop-left.invariant.pairs o es rest a) in
    let v = (c.in_ok-value.ensures.item _).0 (canonical_item o n.k _ _ n.key_is) in
    absurd (c.in_err-at.ensures.item _ (later_item o n.v _ _ _ v n.value_is))

pub loop-left-preserved : goal.loop-left-preserved
loop-left-preserved c = record {
  pairs = λ o es rest a. (
      let n = next_pair o es _ c.loop-left.left _ rest c.loop-left-test.true (c.loop-left.invariant.pairs o es rest a) in
      let v = (c.in_ok-value.ensures.item _).0 (canonical_item o n.k _ _ n.key_is) in
      let w = c.in_ok-value.ensures.within in
      let cut = between c.args.bytes.now c.loop-left.at c.in_ok-value.value (canonical o n.k) n.after_key (omega (arith, w)) w.1 n.key_is.begins v in
      let p = (c.in_ok-at.ensures.item _).0 (later_item o n.v _ _ _ v n.value_is) in
      subst (λ (l : List ℕ). ArePairs o es (c.args.head.now ++ c.args.payload.now) (c.loop-left.left - 1) l rest) (sym p)
      (n.more (λ same. let f = c.in-Before.ensures.equal.1 (cut ∙ same) in absurd (cc f))));
  ends = omega (arith, c.in_ok-at.ensures.within);
}

pub returns-clause-pair : goal.returns-clause-pair
returns-clause-pair c = λ o es rest a. no_pair o es _ c.loop-left.left _ rest (omega (arith, c.loop-left-test.false)) (c.loop-left.invariant.pairs o es rest a)
