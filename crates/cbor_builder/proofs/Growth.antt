-- What is open while the buffer grows.
use Rattle.std.proofs.Common.{◌≡◌, ℕ, suc, ◌-◌, ◌≤◌, List, [], ◌∷◌, ◌++◌, append_assoc, length, length-append, length-drop, take, drop, take-append-drop, length-take, refl, sym, ap, ◌∙◌, subst, arith, map, slice_range, flat_map, take_all}
use Rattle.std.proofs.lemmas.List.{take-append-le, drop-append-le, drop_all, map-append, length-map, nil_from_length}
use Rattle.std.proofs.{lemmas.List.Folds.drop_split, Math.Seq.drop-append_seam}
use Rattle.cbor_head.specs.declared.major.Major.TheVariants as of_major
use Rattle.cbor_head.specs.{declared.major.Major.Major, Prelude.in_order, Prelude.shortest_head, declared.order.KeyOrder.KeyOrder}
use Rattle.theory_values.specs.Parts.{plain, an_array, a_map, a_key, a_string, pair, with_member, with_content, give, opened, extended, close, closed}
use Rattle.theory_values.specs.{Pairs.IsRising, Pairs.pair_bytes, KeyPrefix.prefix_of}
use Rattle.cbor_builder.specs.inner.Laid.{pairs_from, Tile, shape_open, outer_spans, opens, Fits, Laid, Takes, IsString, IsReady, shape_after, span, spans_after, KeepsRising, Agrees, Completed, opening_frame}
use Rattle.cbor_builder.specs.declared.frame.Shape.TheVariants.{Plain, Array, Map, Key, Content}
use Rattle.cbor_builder.{proofs.Written.take_prefix, proofs.Written.drop_prefix, specs.inner.Spans.span_pair, specs.inner.Spans.AreWithin}
use Rattle.cbor_builder.{specs.declared.span.Span.Span, proofs.Slices.slice_all, proofs.Slices.slice_prefix, specs.inner.Prefix.ArePrefixed}
use Rattle.cbor_builder.specs.declared.frame.{Frame.Frame, Shape.Shape}

pub tile_le : (a : ℕ) (ss : List Span) (n : ℕ) → Tile a ss n → a ≤ n
tile_le a [] n t = omega (arith, t)
tile_le a (s ∷ ss) n t = let r = tile_le s.end ss n t.3 in omega (arith, t.0, t.1, t.2, r)

pub tile_within : (out : List ℕ) (a : ℕ) (ss : List Span) (n : ℕ) → Tile a ss n → n ≤ length out → AreWithin out ss
tile_within out a [] n t l = tt
tile_within out a (s ∷ ss) n t l = let r = tile_le s.end ss n t.3 in ((t.1, t.2, omega (arith, r, l)), tile_within out s.end ss n t.3 l)

-- finished pairs stay
pub pairs_stay : (out b : List ℕ) (a : ℕ) (ss : List Span) (n : ℕ) → Tile a ss n → n ≤ length out → map (span_pair (out ++ b)) ss ≡ map (span_pair out) ss
pairs_stay out b a [] n t l = refl
pairs_stay out b a (s ∷ ss) n t l =
    let r = tile_le s.end ss n t.3 in
    let k = slice_prefix out b s.key s.val t.1 (omega (arith, t.2, r, l)) in
    let c = slice_prefix out b s.val s.end t.2 (omega (arith, r, l)) in
    let rest = pairs_stay out b s.end ss n t.3 l in
    λ i. record { key = k i; value = c i } ∷ rest i

pub tile_more : (out : List ℕ) (a : ℕ) (ss : List Span) (key val : ℕ) → Tile a ss key → key ≤ val → val ≤ length out → Tile a (ss ++ span out key val ∷ []) (length out)
tile_more out a [] key val t h g = (sym t, h, g, refl)
tile_more out a (s ∷ ss) key val t h g = (t.0, t.1, t.2, tile_more out s.end ss key val t.3 h g)

-- prefixes stay right
pub prefixed_stay : (out b : List ℕ) (a : ℕ) (ss : List Span) (n : ℕ) → Tile a ss n → n ≤ length out → ArePrefixed out ss → ArePrefixed (out ++ b) ss
prefixed_stay out b a [] n t l h = tt
prefixed_stay out b a (s ∷ ss) n t l h =
    (h.0 ∙ ap prefix_of (sym (slice_prefix out b s.key s.val t.1 (omega (arith, t.2, tile_le s.end ss n t.3, l)))), prefixed_stay out b s.end ss n t.3 l h.1)

pub prefixed_more : (out : List ℕ) (ss : List Span) (key val : ℕ) → ArePrefixed out ss → ArePrefixed out (ss ++ span out key val ∷ [])
prefixed_more out [] key val h = (refl, tt)
prefixed_more out (s ∷ ss) key val h = (h.0, prefixed_more out ss key val h.1)

-- the parts up to an end, joined
pub tile_joins : (out : List ℕ) (a : ℕ) (ss : List Span) (n : ℕ) → Tile a ss n → n ≡ length out → flat_map pair_bytes (map (span_pair out) ss) ≡ drop a out
tile_joins out a [] n t e =
    let l = length-drop a out in sym (nil_from_length (drop a out) (omega (arith, t, e, l)))
tile_joins out a (s ∷ ss) n t e =
    let r = tile_le s.end ss n t.3 in
    ap (λ (xs : List ℕ). (slice_range out s.key s.val ++ slice_range out s.val s.end) ++ xs) (tile_joins out s.end ss n t.3 e)
    ∙ append_assoc (slice_range out s.key s.val) (slice_range out s.val s.end) (drop s.end out)
    ∙ ap (λ (xs : List ℕ). slice_range out s.key s.val ++ xs) (sym (drop_split out s.val s.end t.2))
    ∙ sym (drop_split out s.key s.val t.1)
    ∙ ap (λ k. drop k out) t.0

-- ---- one more finished member

pub given : (o : KeyOrder) (out b : List ℕ) (ss : List Span) (f : Frame) (fs : List Frame) (out' : List ℕ) (ss' : List Span) (f' : Frame)
    → Laid o out ss (f ∷ fs) → Takes f.shape → out' ≡ out ++ b → Completed o ss (length out) f out' ss' f'
    → Agrees o out' ss' (f' ∷ fs) (give b (opens out ss (f ∷ fs)))
given o out b ss f fs out' ss' f' laid takes e c =
    let spans : ss' ≡ spans_after (out ++ b) ss (length out) f.shape = c.3 ∙ (λ i. spans_after (e i) ss (length out) f.shape) in
    coe 1 0 (i. Agrees o (e i) (spans i) (record { from = c.0 i; start = c.1 i; shape = c.2 i; rises = f'.rises } ∷ fs) (give b (opens out ss (f ∷ fs))))
    (by_shape f.shape laid.2 laid.3 takes (coe 0 1 (i. KeepsRising o (e i) ss (length out) f.shape f.rises f'.rises) c.4))
  where
    start : f.start ≤ length (out ++ b)
    start = omega (arith, length-append out b, laid.1)

    t : take f.from (out ++ b) ≡ take f.from out
    t = take-append-le f.from out b (omega (arith, laid.0, laid.1))

    by_shape : (s : Shape) → Fits o out ss f.from f.start f.rises s → Laid o (take f.from out) (outer_spans ss s) fs → Takes s → KeepsRising o (out ++ b) ss (length out) s f.rises f'.rises
        → Agrees o (out ++ b) (spans_after (out ++ b) ss (length out) s) (record { from = f.from; start = f.start; shape = shape_after (length out) s; rises = f'.rises } ∷ fs)
        (with_member b (shape_open out ss f.start s) ∷ opens (take f.from out) (outer_spans ss s) fs)
    by_shape Plain fits outer takes keeps = ((laid.0, start, fits, coe 1 0 (i. Laid o (t i) ss fs) outer), λ i. plain (drop-append-le f.start out b laid.1 i) ∷ opens (t i) ss fs)
    by_shape (Array k) fits outer takes keeps = ((laid.0, start, takes, coe 1 0 (i. Laid o (t i) ss fs) outer), λ i. an_array (suc k) (drop-append-le f.start out b laid.1 i) ∷ opens (t i) ss fs)
    by_shape (Map first) fits outer takes keeps =
        let n = length-append out b in
        let stay = pairs_stay out b f.start (drop first ss) (length out) fits.1 (omega arith) in
        let prefixes = prefixed_stay out b f.start (drop first ss) (length out) fits.1 (omega arith) fits.3 in (
          (laid.0, start, (fits.0, fits.1, omega (arith, n), (λ r. subst (IsRising o) (sym stay) (fits.2 (sym keeps ∙ r))), prefixes), coe 1 0 (i. Laid o (t i) (take first ss) fs) outer),
          λ i. a_key (stay i) (drop-append_seam out b i) ∷ opens (t i) (take first ss) fs,
        )
    by_shape (Key first at) fits outer takes keeps =
        let val = length out in
        let end = length (out ++ b) in
        let new = span (out ++ b) at val in
        let ts : take first (ss ++ new ∷ []) ≡ take first ss = take-append-le first ss (new ∷ []) fits.0 in
        let ds : drop first (ss ++ new ∷ []) ≡ drop first ss ++ new ∷ [] = drop-append-le first ss (new ∷ []) fits.0 in
        let stay = pairs_stay out b f.start (drop first ss) at fits.1 fits.2 in
        let key : slice_range (out ++ b) at val ≡ drop at out = slice_prefix out b at val fits.2 (omega arith) ∙ slice_all out at val refl in
        let content : slice_range (out ++ b) val end ≡ b = slice_all (out ++ b) val end refl ∙ drop-append_seam out b in (
          (
            laid.0,
            start,
            (
              omega (arith, length-append ss (new ∷ []), fits.0),
              coe 1 0 (i. Tile f.start (ds i) end) (tile_more (out ++ b) f.start (drop first ss) at val fits.1 fits.2 (omega (arith, length-append out b))),
              (λ r. coe 1 0 (i. IsRising o (map (span_pair (out ++ b)) (ds i))) ((keeps r).1 (subst (IsRising o) (sym stay) (fits.3 (keeps r).0)))),
              coe 1 0 (i. ArePrefixed (out ++ b) (ds i)) (prefixed_more (out ++ b) (drop first ss) at val (prefixed_stay out b f.start (drop first ss) at fits.1 fits.2 fits.4)),
            ),
            coe 1 0 (i. Laid o (t i) (ts i) fs) outer,
          ),
          (λ i. a_map ((ap (map (span_pair (out ++ b))) ds ∙ map-append (span_pair (out ++ b)) (drop first ss) (new ∷ [])) i) ∷ opens (t i) (ts i) fs)
              ∙ (λ i. a_map (stay i ++ pair (key i) (content i) ∷ []) ∷ opens (take f.from out) (take first ss) fs),
        )
    by_shape (Content m) fits outer takes keeps = absurd takes

-- what a map with a waiting key is ready for, once its value follows the key
pub key_ready : (o : KeyOrder) (out b : List ℕ) (ss : List Span) (f : Frame) (fs : List Frame) (bytes : List ℕ) (at : ℕ) → Laid o out ss (f ∷ fs) → bytes ≡ out ++ b → at ≡ length out
    → IsReady bytes ss at f.shape
key_ready o out b ss f fs bytes at laid eb ea first key e =
    let fits = subst (Fits o out ss f.from f.start f.rises) e laid.2 in
    let n = length-append out b in (
      fits.0,
      omega (arith, fits.2, ea),
      omega (arith, n, ea, ap length eb),
      subst (λ (xs : List ℕ). ArePrefixed xs (drop first ss)) (sym eb) (prefixed_stay out b f.start (drop first ss) key fits.1 fits.2 fits.4),
    )

-- ---- more of a string

pub lengthened : (o : KeyOrder) (out b : List ℕ) (ss : List Span) (f : Frame) (fs : List Frame) → Laid o out ss (f ∷ fs) → IsString f.shape
    → Agrees o (out ++ b) ss (f ∷ fs) (extended b (opens out ss (f ∷ fs)))
lengthened o out b ss f fs laid string = by_shape f.shape laid.2 laid.3 string
  where
    by_shape : (s : Shape) → Fits o out ss f.from f.start f.rises s → Laid o (take f.from out) (outer_spans ss s) fs → IsString s
        → Agrees o (out ++ b) ss (record { from = f.from; start = f.start; shape = s; rises = f.rises } ∷ fs) (with_content b (shape_open out ss f.start s) ∷ opens (take f.from out) (outer_spans ss s) fs)
    by_shape (Content m) fits outer h =
        let t = take-append-le f.from out b (omega (arith, laid.0, laid.1)) in
        ((laid.0, omega (arith, length-append out b, laid.1), fits, coe 1 0 (i. Laid o (t i) ss fs) outer), λ i. a_string m (drop-append-le f.start out b laid.1 i) ∷ opens (t i) ss fs)
    by_shape s fits outer h = absurd h

-- ---- what ends

-- the bytes of what closes are given to what holds it
pub ended : (o : KeyOrder) (out : List ℕ) (ss : List Span) (f g : Frame) (fs : List Frame) (out' : List ℕ) (ss' : List Span) (g' : Frame)
    → Laid o out ss (f ∷ g ∷ fs) → Takes g.shape → out' ≡ take f.from out ++ closed o (shape_open out ss f.start f.shape)
    → Completed o (outer_spans ss f.shape) f.from g out' ss' g'
    → Agrees o out' ss' (g' ∷ fs) (close o (opens out ss (f ∷ g ∷ fs)))
ended o out ss f g fs out' ss' g' laid takes e c =
    let n : f.from ≡ length (take f.from out) = omega (arith, length-take f.from out, laid.0, laid.1) in
    given o (take f.from out) (closed o (shape_open out ss f.start f.shape)) (outer_spans ss f.shape) g fs out' ss' g' laid.3 takes e
    (subst (λ k. Completed o (outer_spans ss f.shape) k g out' ss' g') n c)

-- nothing is open any more
pub finished : (o : KeyOrder) (out : List ℕ) (ss : List Span) (f : Frame) (fs : List Frame) → Laid o out ss (f ∷ fs) → (bs : List ℕ)
    → opens out ss (f ∷ fs) ≡ plain bs ∷ [] → out ≡ bs
finished o out ss f [] laid bs e =
    let c : shape_open out ss f.start f.shape ≡ plain bs = cc in
    by_shape f.shape laid.2 laid.3 c
  where
    by_shape : (s : Shape) → Fits o out ss f.from f.start f.rises s → take f.from out ≡ [] → shape_open out ss f.start s ≡ plain bs → out ≡ bs
    by_shape Plain fits none c =
        let d : drop f.start out ≡ bs = cc in
        sym (take-append-drop f.from out) ∙ (λ i. none i ++ drop (sym fits i) out) ∙ d
    by_shape s fits none c = cc
finished o out ss f (g ∷ fs) laid bs e = cc

-- ---- what begins

pub begun : (m : Major) (n from end : ℕ) (out out' : List ℕ) (ss : List Span) (fs : List Frame) → from ≡ length out → end ≡ length out' → out' ≡ out ++ shortest_head m n
    → opens out' ss (opening_frame m from end (length ss) ∷ fs) ≡ opened m n ∷ opens out ss fs
begun m n from end out out' ss fs ef ee eo = by_major m (ap (drop from) eo ∙ ap (λ (k : ℕ). drop k (out ++ shortest_head m n)) ef ∙ drop-append_seam out (shortest_head m n))
  where
    prefix : take from out' ≡ out
    prefix = ap (take from) eo ∙ take-append-le from out (shortest_head m n) (omega (arith, ef)) ∙ take_all from out (omega (arith, ef))

    no_bytes : drop end out' ≡ []
    no_bytes = drop_all end out' (omega (arith, ee))

    by_major : (k : Major) → drop from out' ≡ shortest_head k n → opens out' ss (opening_frame k from end (length ss) ∷ fs) ≡ opened k n ∷ opens out ss fs
    by_major of_major.Array h = λ i. an_array 0 (no_bytes i) ∷ opens (prefix i) ss fs
    by_major of_major.Map h = λ i. a_map (map (span_pair out') (drop_all (length ss) ss (omega arith) i)) ∷ opens (prefix i) (take_all (length ss) ss (omega arith) i) fs
    by_major of_major.Tag h = λ i. plain (h i) ∷ opens (prefix i) ss fs
    by_major k h = λ i. a_string k (no_bytes i) ∷ opens (prefix i) ss fs

-- ---- the bytes of a map that closes

pub count : (out : List ℕ) (ss : List Span) (first n : ℕ) → n ≡ length ss - first → n ≡ length (pairs_from out ss first)
count out ss first n e = omega (arith, e, length-drop first ss, length-map (drop first ss) (span_pair out))

pub map_sorted : (o : KeyOrder) (out : List ℕ) (ss : List Span) (from start first n : ℕ) (mid new : List ℕ) → from ≤ start → start ≤ length out → n ≡ length ss - first
    → mid ≡ take start out ++ flat_map pair_bytes (in_order o (pairs_from out ss first)) → new ≡ take from mid ++ (shortest_head of_major.Map n ++ drop start mid)
    → new ≡ take from out ++ closed o (a_map (pairs_from out ss first))
map_sorted o out ss from start first n mid new h g e em en =
    let x = flat_map pair_bytes (in_order o (pairs_from out ss first)) in
    let c = count out ss first n e in
    let a = ap (take from) em ∙ take_prefix from start out x h g in
    let b = ap (drop start) em ∙ drop_prefix start out x g in
    en ∙ (λ i. a i ++ (shortest_head of_major.Map (c i) ++ b i))
