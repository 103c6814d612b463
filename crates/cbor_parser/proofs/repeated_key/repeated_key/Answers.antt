use Rattle.std.proofs.Common.{◌≡◌, ◌++◌, refl, ap, arith}
use Rattle.cbor_head.specs.Prelude.{Bounds, spell}
use Rattle.cbor_parser.proofs.RepeatedKeys.{pairs_fit, content_short, content_shorter, pairs_at_start, key_at_start, key_shorter, rest_shorter, refused_there}
use Rattle.cbor_parser.proofs.repeated_key.repeated_key.Goals as goal
use Rattle.cbor_parser.proofs.repeated_key.repeated_key.Goals.{After-past_items-key, After-past_items-rest}

key_is : (c : After-past_items-key) → c.past_items-key.result.now ≡ spell c.requires.reported.key ++ c.requires.reported.more
key_is c = c.past_items-key.ensures _ (pairs_at_start c.args.limits c.args.input.now c.args.following c.args.pair c.requires.reported c.with_keys-limits.result.depth (ap (λ (b : Bounds). b.depth) c.with_keys-limits.ensures))

rest_is : (c : After-past_items-rest) → c.past_items-key.result.now ≡ spell c.requires.reported.key ++ c.requires.reported.more → c.past_items-rest.result.now ≡ c.requires.reported.more
rest_is c is = c.past_items-rest.ensures _ (key_at_start c.args.limits c.args.input.now c.args.following c.args.pair c.requires.reported c.with_keys-limits.result.depth c.past_items-key.result.now (ap (λ (b : Bounds). b.depth) c.with_keys-limits.ensures) is)

pub overflow_mul-pair : goal.overflow_mul-pair
overflow_mul-pair c = omega (arith, pairs_fit c.args.limits c.args.input.now c.args.following c.args.pair c.requires.reported)

pub past_items-key-requires : goal.past_items-key-requires
past_items-key-requires c = record {
  small = content_short c.args.limits c.args.input.now c.args.following c.args.pair c.requires.reported;
  within = omega (arith, c.requires.within, ap (λ (b : Bounds). b.bytes) c.with_keys-limits.ensures, content_shorter c.args.limits c.args.input.now c.args.following c.args.pair c.requires.reported);
  any = ap (λ (b : Bounds). b.keys) c.with_keys-limits.ensures;
  items = (_, pairs_at_start c.args.limits c.args.input.now c.args.following c.args.pair c.requires.reported c.with_keys-limits.result.depth (ap (λ (b : Bounds). b.depth) c.with_keys-limits.ensures));
}

pub past_items-rest-requires : goal.past_items-rest-requires
past_items-rest-requires c =
    let a = c.args in
    let is = key_is (goal.at.past_items-rest-requires c).After-past_items-key in
    record {
      small = omega (arith, c.requires.reported.small, key_shorter a.limits a.input.now a.following a.pair c.requires.reported c.past_items-key.result.now c.requires.reported.more is refl);
      within = omega (arith, c.requires.within, ap (λ (b : Bounds). b.bytes) c.with_keys-limits.ensures, key_shorter a.limits a.input.now a.following a.pair c.requires.reported c.past_items-key.result.now c.requires.reported.more is refl);
      any = ap (λ (b : Bounds). b.keys) c.with_keys-limits.ensures;
      items = (_, key_at_start a.limits a.input.now a.following a.pair c.requires.reported c.with_keys-limits.result.depth c.past_items-key.result.now (ap (λ (b : Bounds). b.depth) c.with_keys-limits.ensures) is);
    }

pub overflow_sub-at : goal.overflow_sub-at
overflow_sub-at c = key_shorter c.args.limits c.args.input.now c.args.following c.args.pair c.requires.reported c.past_items-key.result.now c.requires.reported.more (key_is (goal.at.overflow_sub-at c).After-past_items-key) refl

pub overflow_sub-end : goal.overflow_sub-end
overflow_sub-end c =
    let is = key_is (goal.at.overflow_sub-end c).After-past_items-key in
    rest_shorter c.args.limits c.args.input.now c.args.following c.args.pair c.requires.reported c.past_items-key.result.now c.past_items-rest.result.now is (rest_is (goal.at.overflow_sub-end c).After-past_items-rest is)

pub returns : goal.returns
returns c =
    let is = key_is (goal.at.returns c).After-past_items-key in
    refused_there c.args.limits c.args.input.now c.args.following c.args.pair c.requires.reported c.past_items-key.result.now c.past_items-rest.result.now is (rest_is (goal.at.returns c).After-past_items-rest is) c.new.result c.new.ensures
