-- Marks tile the bytes consumed, each with its own bytes.
use Rattle.std.proofs.Common.{◌≡◌, ℕ, zero, suc, ◌+◌, Bool, true, false, Option, Some, None, List, [], ◌∷◌, ◌++◌, length, drop, replicate, refl, sym, ap, ◌∙◌, subst, arith, append_assoc, append-nil, length-append}
use Rattle.std.proofs.Math.Seq.{drop-append_seam}
use Rattle.cbor_head.specs.Prelude.{Holds, IsHead, head, AreBytes}
use Rattle.cbor_head.specs.declared.major.Major.TheVariants.{Unsigned, Negative, Bytes, Text, Array, Map, Tag, Simple}
use Rattle.cbor_head.specs.declared.event.EventKind.TheVariants as kinds
use Rattle.cbor_head.specs.declared.{event.EventKind.EventKind, major.Major.Major, width.Width.Width}
use Rattle.cbor_head.specs.declared.width.Width.TheVariants.{Direct, Indefinite}
use Rattle.theory_automaton.specs.Trace.{Mark, a_head, a_chunk, a_byte, a_break, more_bytes, size, total}
use Rattle.theory_automaton.specs.Automaton.{Frame, counted, indefinite_array, indefinite_map, close, expect, close_string, payload, State, start, at_item, in_payload, in_chunks, Next, refuses, goes, reports, take_byte, and_then, run, reached}
use Rattle.theory_automaton.specs.Taking.{IsTaking, Follows, Opens, Ends}
use Rattle.theory_automaton.specs.Marks.{mark_of, marks_of, IsProper}
use Rattle.theory_automaton.specs.Bytes.{type_after, last_type, IsChunkHead, IsMarkBytes, IsBytesOf, IsEventBytes}
use Rattle.theory_automaton.proofs.Taking.{IsClear, IsWithin, IsTakingNext, byte-taken, within-start, clear-nothing}
use Rattle.theory_automaton.proofs.Events.{reporting-reached}

is-head : (d : ℕ) (fs : List Frame) (m : Major) (w : Width) (n : ℕ) (to : State) → Holds w n → Follows d fs m w n to → IsHead m w n
is-head d fs Simple w n to h f = (f.0, f.1)
is-head d fs _ w n to h f = h

-- In an indefinite string the last head reported was that string's.
abbrev pub IsTyped : State → Option Major → Type 0
IsTyped (in_chunks m fs) type = type ≡ Some m
IsTyped (in_payload true m n fs) type = type ≡ Some m
IsTyped _ type = Unit {0}

typed-close : (fs : List Frame) (type : Option Major) → IsTyped (close fs) type
typed-close (counted zero ∷ fs) type = typed-close fs type
typed-close _ type = tt

typed-expect : (n : ℕ) (fs : List Frame) (type : Option Major) → IsTyped (expect n fs) type
typed-expect zero fs type = typed-close fs type
typed-expect (suc n) fs type = tt

typed-payload : (m : Major) (n : ℕ) (fs : List Frame) (type : Option Major) → IsTyped (payload false m n fs) type
typed-payload m zero fs type = typed-close fs type
typed-payload m (suc n) fs type = tt

typed-chunk : (m : Major) (n : ℕ) (fs : List Frame) (type : Option Major) → type ≡ Some m → IsTyped (payload true m n fs) type
typed-chunk m zero fs type h = h
typed-chunk m (suc n) fs type h = h

typed-follows : (d : ℕ) (fs : List Frame) (m : Major) (w : Width) (n : ℕ) (to : State) → Follows d fs m w n to → IsTyped to (Some m)
typed-follows d fs Unsigned w n to h = subst (λ q. IsTyped q (Some Unsigned)) (sym h) (typed-close fs (Some Unsigned))
typed-follows d fs Negative w n to h = subst (λ q. IsTyped q (Some Negative)) (sym h) (typed-close fs (Some Negative))
typed-follows d fs Bytes w n to h = subst (λ q. IsTyped q (Some Bytes)) (sym h) (typed-payload Bytes n fs (Some Bytes))
typed-follows d fs Text w n to h = subst (λ q. IsTyped q (Some Text)) (sym h) (typed-payload Text n fs (Some Text))
typed-follows d fs Array w n to h = subst (λ q. IsTyped q (Some Array)) (sym h.1) (typed-expect n fs (Some Array))
typed-follows d fs Map w n to h = subst (λ q. IsTyped q (Some Map)) (sym h.1) (typed-expect (n + n) fs (Some Map))
typed-follows d fs Tag w n to h = subst (λ q. IsTyped q (Some Tag)) (sym h.1) (typed-expect 1 fs (Some Tag))
typed-follows d fs Simple w n to h = subst (λ q. IsTyped q (Some Simple)) (sym h.2) (typed-close fs (Some Simple))

typed-opens : (d : ℕ) (fs : List Frame) (m : Major) (to : State) → Opens d fs m to → IsTyped to (Some m)
typed-opens d fs Bytes to h = subst (λ q. IsTyped q (Some Bytes)) (sym h) refl
typed-opens d fs Text to h = subst (λ q. IsTyped q (Some Text)) (sym h) refl
typed-opens d fs Array to h = subst (λ q. IsTyped q (Some Array)) (sym h.1) tt
typed-opens d fs Map to h = subst (λ q. IsTyped q (Some Map)) (sym h.1) tt
typed-opens d fs _ to h = absurd h

typed-ends : (fs : List Frame) (to : State) (type : Option Major) → Ends fs to → IsTyped to type
typed-ends (indefinite_array ∷ fs) to type h = subst (λ q. IsTyped q type) (sym h) (typed-close fs type)
typed-ends (indefinite_map false ∷ fs) to type h = subst (λ q. IsTyped q type) (sym h) (typed-close fs type)
typed-ends _ to type h = absurd h

typed-string : (chunk : Bool) (m : Major) (n : ℕ) (fs : List Frame) (type : Option Major) → IsTyped (in_payload chunk m n fs) type → IsTyped (close_string chunk m fs) type
typed-string true m n fs type h = h
typed-string false m n fs type h = typed-close fs type

typed-more : (chunk : Bool) (m : Major) (n k : ℕ) (fs : List Frame) (type : Option Major) → IsTyped (in_payload chunk m n fs) type → IsTyped (in_payload chunk m k fs) type
typed-more true m n k fs type h = h
typed-more false m n k fs type h = tt

-- a mark's bytes, after a head of some type
mark-bytes : (d : ℕ) (q t : State) (m : Mark) (bs : List ℕ) (type : Option Major) → IsTyped q type → IsTaking d q m bs t → IsMarkBytes type m bs × IsTyped t (type_after type m)
mark-bytes d (at_item fs) t (a_head m Indefinite n) bs type y h = ((h.0, h.1), typed-opens d fs m t h.2)
mark-bytes d (at_item fs) t (a_head m w n) bs type y h = ((is-head d fs m w n t h.1 h.2, h.0), typed-follows d fs m w n t h.2)
mark-bytes d (at_item fs) t a_break bs type y h = (h.0, typed-ends fs t type h.1)
mark-bytes d (in_chunks m fs) t (a_chunk w n) bs type y h =
    (subst (λ o. IsChunkHead o w n bs) (sym y) (h.1, h.0), subst (λ q. IsTyped q type) (sym h.2) (typed-chunk m n fs type y))
mark-bytes d (in_chunks m fs) t a_break bs type y h = (h.0, subst (λ q. IsTyped q type) (sym h.1) (typed-close fs type))
mark-bytes d (in_payload chunk m zero fs) t a_byte bs type y h = (h.0, subst (λ q. IsTyped q type) (sym h.1) (typed-string chunk m 0 fs type y))
mark-bytes d (in_payload chunk m (suc n) fs) t a_byte bs type y h = (h.0, subst (λ q. IsTyped q type) (sym h.1) (typed-more chunk m (suc n) n fs type y))
mark-bytes d _ t _ bs type y h = absurd h

pub head-size : (m : Major) (w : Width) (n : ℕ) → length (head m w n) ≡ suc (more_bytes w)
head-size m Direct n = refl
head-size m _ n = refl

chunk-size : (type : Option Major) (w : Width) (n : ℕ) (bs : List ℕ) → IsChunkHead type w n bs → length bs ≡ suc (more_bytes w)
chunk-size (Some m) w n bs h = ap length h.1 ∙ head-size m w n
chunk-size None w n bs h = absurd h

mark-size : (type : Option Major) (m : Mark) (bs : List ℕ) → IsMarkBytes type m bs → length bs ≡ size m
mark-size type (a_chunk w n) bs h = chunk-size type w n bs h
mark-size type a_byte bs h = h
mark-size type a_break bs h = ap length h
mark-size type (a_head m Indefinite n) bs h = ap length h.1
mark-size type _ bs h = ap length h.1

-- each mark with its bytes, one after another, after a head of some type
abbrev pub AreMarkBytes : Option Major → List Mark → List ℕ → Type 0
AreMarkBytes type [] bs = bs ≡ []
AreMarkBytes type (m ∷ ms) bs = (xs : List ℕ) × (ys : List ℕ) × (bs ≡ xs ++ ys) × IsMarkBytes type m xs × AreMarkBytes (type_after type m) ms ys

-- the bytes of the marks, and after them those of the open head
pub record Tiled (d : ℕ) (t : State) (type : Option Major) (all : List ℕ) (ms : List Mark) : Type 0 where
  pub prefix : List ℕ
  pub back : List ℕ
  pub splits : all ≡ prefix ++ back
  pub marks : AreMarkBytes type ms prefix
  pub begun : State
  pub within : IsWithin d begun t back

pub run-tiled : (d : ℕ) (bs : List ℕ) (from q t : State) (type : Option Major) (pre : List ℕ) (ms : List Mark) → IsWithin d from q pre → IsTyped from type → AreBytes bs → run d q bs ≡ reached t ms
    → Tiled d t type (pre ++ bs) ms
run-tiled d [] from q t type pre ms h y b e =
    let same : q ≡ t = cc in
    let none : [] ≡ ms = cc in
    record {
      prefix = [];
      back = pre;
      splits = append-nil pre;
      marks = subst (λ (ns : List Mark). AreMarkBytes type ns []) none refl;
      begun = from;
      within = subst (λ (u : State). IsWithin d from u pre) same h;
    }
run-tiled d (c ∷ cs) from q t type pre ms h y b e =
    subst (λ (xs : List ℕ). Tiled d t type xs ms) (append_assoc pre (c ∷ []) cs)
    (go (take_byte d q c) (byte-taken d from q pre c h b.0) e (λ f u o p ns k z g. run-tiled d cs f u t o p ns k z b.1 g))
  where
    go : (next : Next) → IsTakingNext d from next (pre ++ c ∷ []) → and_then next (λ u. run d u cs) ≡ reached t ms
        → ((f u : State) (o : Option Major) (p : List ℕ) (ns : List Mark) → IsWithin d f u p → IsTyped f o → run d u cs ≡ reached t ns → Tiled d t o (p ++ cs) ns) → Tiled d t type ((pre ++ c ∷ []) ++ cs) ms
    go (refuses r) k e ih = absurd (cc)
    go (goes u) k e ih = ih from u type (pre ++ c ∷ []) ms k y e
    go (reports m u) k e ih =
        let is = reporting-reached m (run d u cs) t ms e in
        let here = pre ++ c ∷ [] in
        let of = mark-bytes d from u m here type y k.0 in
        let rest = ih u u (type_after type m) [] is.0 (within-start d u k.1) of.1 is.1 in
        record {
          prefix = here ++ rest.prefix;
          back = rest.back;
          splits = ap (λ xs. here ++ xs) rest.splits ∙ sym (append_assoc here rest.prefix rest.back);
          marks = subst (λ (ns : List Mark). AreMarkBytes type ns (here ++ rest.prefix)) (sym is.2) (here, rest.prefix, refl, of.0, rest.marks);
          begun = rest.begun;
          within = rest.within;
        }

-- ---- the bytes of the last event

-- the bytes of the later marks
pub record FollowingBytes (type : Option Major) (ms ns : List Mark) (bs : List ℕ) : Type 0 where
  pub prefix : List ℕ
  pub back : List ℕ
  pub splits : bs ≡ prefix ++ back
  pub size_is : length prefix ≡ total ms
  pub marks : AreMarkBytes (last_type type ms) ns back

following : (type : Option Major) (ms ns : List Mark) (bs : List ℕ) → AreMarkBytes type (ms ++ ns) bs → FollowingBytes type ms ns bs
following type [] ns bs h = record { prefix = []; back = bs; splits = refl; size_is = refl; marks = h }
following type (m ∷ ms) ns bs h =
    let rest = following (type_after type m) ms ns h.1 h.4 in
    let one = mark-size type m h.0 h.3 in
    let more = rest.size_is in
    record {
      prefix = h.0 ++ rest.prefix;
      back = rest.back;
      splits = h.2 ∙ ap (λ xs. h.0 ++ xs) rest.splits ∙ sym (append_assoc h.0 rest.prefix rest.back);
      size_is = omega (arith, length-append h.0 rest.prefix, one, more);
      marks = rest.marks;
    }

alone : (type : Option Major) (m : Mark) (bs : List ℕ) → AreMarkBytes type (m ∷ []) bs → IsMarkBytes type m bs
alone type m bs h = subst (λ (xs : List ℕ). IsMarkBytes type m xs) (sym (h.2 ∙ ap (λ xs. h.0 ++ xs) h.4 ∙ append-nil h.0)) h.3

pieces : (type : Option Major) (n : ℕ) (bs : List ℕ) → AreMarkBytes type (replicate n a_byte) bs → length bs ≡ n
pieces type zero bs h = ap length h
pieces type (suc n) bs h =
    let rest = pieces type n h.1 h.4 in
    let one = h.3 in
    let all : length bs ≡ length h.0 + length h.1 = ap length h.2 ∙ length-append h.0 h.1 in
    omega arith

event-bytes : (type : Option Major) (w : Width) (kind : EventKind) (bs : List ℕ) → AreMarkBytes type (marks_of w kind) bs → IsBytesOf type w kind bs
event-bytes type w (kinds.Piece n) bs h = pieces type n bs h
event-bytes type w (kinds.Chunk n) bs h = alone type (a_chunk w n) bs h
event-bytes type w kinds.End bs h = alone type a_break bs h
event-bytes type w kind bs h = alone type (mark_of w kind) bs h

-- the bytes of the event after these marks, if no head is open
pub last-bytes : (d : ℕ) (t : State) (bs : List ℕ) (ms : List Mark) (w : Width) (kind : EventKind) → AreBytes bs → run d start bs ≡ reached t (ms ++ marks_of w kind) → IsClear t
    → IsProper w kind → IsEventBytes ms w kind (drop (total ms) bs)
last-bytes d t bs ms w kind b e clear proper =
    let tiled = run-tiled d bs start start t None [] (ms ++ marks_of w kind) (refl, refl) tt b e in
    let nothing = (clear-nothing d tiled.begun t tiled.back clear tiled.within).1 in
    let all : bs ≡ tiled.prefix = tiled.splits ∙ ap (λ xs. tiled.prefix ++ xs) nothing ∙ append-nil tiled.prefix in
    let parts = following None ms (marks_of w kind) tiled.prefix tiled.marks in
    let past : drop (total ms) bs ≡ parts.back = ap (λ n. drop n bs) (sym parts.size_is) ∙ ap (drop (length parts.prefix)) (all ∙ parts.splits) ∙ drop-append_seam parts.prefix parts.back in
    subst (λ (xs : List ℕ). IsEventBytes ms w kind xs) (sym past) (proper, event-bytes (last_type None ms) w kind parts.back parts.marks)
