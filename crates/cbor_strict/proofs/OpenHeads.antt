-- How a head changes the open containers.
use Rattle.std.proofs.Common.{◌≡◌, ◌≢◌, ℕ, ◌+◌, ◌<◌, ◌≤◌, ◌⊎◌, Bool, true, false, Option, Some, None, List, [], ◌∷◌, ◌++◌, length, refl, sym, ap, ◌∙◌, subst, inl, inr, arith, append-nil, length-append}
use Rattle.std.proofs.lemmas.List.{nil_from_length}
use Rattle.cbor_head.specs.Prelude.{head, shortest, shortest_head, Bounds, Value, Spelling, SpelledEntries, no_entries, spell, strict, OfHead, Complains, refusal}
use Rattle.cbor_head.specs.Complaint as complaint
use Rattle.cbor_head.specs.declared.major.Major.TheVariants as majors
use Rattle.cbor_head.specs.declared.width.Width.TheVariants.{Direct, One, Two, Four, Eight, Indefinite}
use Rattle.cbor_head.specs.declared.event.EventKind.TheVariants as kinds
use Rattle.cbor_head.specs.declared.{limits.TheConstants.MAX_DEPTH, major.Major.Major, order.KeyOrder.KeyOrder, reason.Reason.Reason}
use Rattle.cbor_head.specs.declared.{reason.Reason.TheVariants.Memory, reason.Refusal.Refusal, width.Width.Width, event.Event.Event, event.EventKind.EventKind}
use Rattle.cbor_text.specs.TextCheck.{HasChecked}
use Rattle.theory_automaton.specs.Trace.{Mark, a_head, a_chunk, a_byte, a_break}
use Rattle.theory_automaton.specs.Marks.{mark_of}
use Rattle.cbor_machine.specs.NextEvent.{ItemEventsView}
use Rattle.theory_verdicts.specs.Place.{Container, Place, at_item, close, payload, IsTaking}
use Rattle.theory_verdicts.specs.Frame.{Frame, a_key, before}
use Rattle.theory_verdicts.specs.Reading.{AreRefused, IsReached, IsUndecided, HasCause, OfMark, IsFault, IsHeadFault, IsBegun, ReadsItem, string_kind, string_major}
use Rattle.theory_verdicts.proofs.Items.{whole-cause, definite, proper-definite, never-open, head-count, cause-in, undecided-in, head-judged}
use Rattle.theory_verdicts.proofs.Steps.{head-size, fault_of, at-reached}
use Rattle.theory_verdicts.{specs.OpenMaps.AreOpen, specs.OpenMaps.AreOpenDistinct, specs.Judged.Never, proofs.Scalars.at-as, proofs.Undecided.mark-undecided}
use Rattle.theory_verdicts.proofs.WholeStrings.{string-head, string-expected}
use Rattle.cbor_strict.specs.inner.LastKeys.{view_value, from_outside, expected_of, IsKept}
use Rattle.cbor_strict.specs.inner.OpenItems.{AreOpenClean, frames_in, bytes_before, Agrees, HasEnded, HasHeadCome, HasBegunIn, IsLeaf, IsMap, IsOther, GoesOn}
use Rattle.cbor_strict.proofs.OpenBegins.{lift, no_break, no_openers, leaf_reads, HasOpened, other_opens, pairs_open}
use Rattle.cbor_strict.specs.{StrictReader.IsMapHead, declared.last_keys.Expected.TheVariants.Member, declared.last_keys.LastKeys.LastKeys}
use Rattle.cbor_strict.{specs.declared.open_items.OpenItems.OpenItems, proofs.KeptEnds.kept_keys, proofs.KeptEnds.kept_levels}
use Rattle.cbor_strict.proofs.{OpenEnds.frames_length, OpenEnds.before_more, OpenStates.around_as}

-- ---- what is found of the item is found of the whole

module _ (o : KeyOrder) (b : Bounds) (fs : List Frame) (are : AreOpen (strict o) b.depth (from_outside fs)) (distinct : AreOpenDistinct (strict o) 0 (from_outside fs)) where
  pub refused_part : (m t : List ℕ) (to : Option (List ℕ)) (f : Refusal) → t ≡ bytes_before fs ++ m → f.read ≡ length t → HasCause (strict o) b (frames_in fs) (bytes_before fs) m to f → AreRefused (strict o) b t to f
  refused_part m t to f e read h = record { read = read; why = inr (subst (λ (x : List ℕ). HasCause (strict o) b [] [] x to f) (sym e) (cause-in (strict o) b [] (frames_in fs) [] (bytes_before fs) (lift o b fs are distinct) m to f h)) }

  pub memory_part : (m t : List ℕ) (to : Option (List ℕ)) (f : Refusal) (taken : ℕ) → t ≡ bytes_before fs ++ m → taken ≡ length t → f ≡ refusal Memory taken taken → IsReached b t → IsUndecided (strict o) b (frames_in fs) (bytes_before fs) m
      → AreRefused (strict o) b t to f
  memory_part m t to f taken e read is r u = record {
    read = ap (λ (x : Refusal). x.read) is ∙ read;
    why = inl (
      (ap (λ (x : Refusal). x.reason) is, ap (λ (x : Refusal). x.place) is ∙ sym (ap (λ (x : Refusal). x.read) is)),
      r,
      subst (λ (x : List ℕ). IsUndecided (strict o) b [] [] x) (sym e) (undecided-in (strict o) b [] (frames_in fs) [] (bytes_before fs) (lift o b fs are distinct) m u),
    );
  }

-- ---- the head has a complaint

pub refused_head : (v : OpenItems) (b : Bounds) (event : Event) (m : Major) (k : ℕ) (t x : List ℕ) (e : ItemEventsView) (reason : Reason) (f : Refusal) (taken : ℕ) (to : Option (List ℕ)) → mark_of event.width event.kind ≡ a_head m event.width k → HasHeadCome v b event t x e
    → IsHeadFault event.width k reason → taken ≡ e.machine.taken → f ≡ refusal reason event.place taken → AreRefused (strict v.order) b (t ++ x) to f
refused_head v b event m k t x e reason f taken to mark h head_fault all is =
    let fault = subst (λ (y : Mark). IsFault (strict v.order) y reason) (sym mark) (refl, head_fault) in
    let size : taken ≡ length t + length x = all ∙ h.at.agrees.agrees.taken ∙ length-append t x in
    let f_is : f ≡ refusal reason (length t) (length t + length x) = is ∙ ap (λ (n : ℕ). refusal reason n taken) h.place ∙ ap (refusal reason (length t)) size in
    let c = complaint.complaint (length t + length x) (length t) reason in
    let of = head-size b.depth (at_item (frames_in h.fs)) h.next (mark_of event.width event.kind) x (strict v.order) (length t) reason h.taking fault in
    let cause = whole-cause (strict v.order) b (frames_in h.fs) t x to f c (head-judged (strict v.order) (length t) b.depth (frames_in h.fs) (mark_of event.width event.kind) x h.next c h.taking of) f_is (at-reached b e (t ++ x) h.next h.at).within in
    refused_part v.order b h.fs h.around.are h.around.distinct x (t ++ x) to f (ap (λ (y : List ℕ). y ++ x) h.taken) (ap (λ (y : Refusal). y.read) f_is ∙ sym (length-append t x))
    (subst (λ (y : List ℕ). HasCause (strict v.order) b (frames_in h.fs) y x to f) h.taken cause)

-- ---- no memory for it

-- a head without complaint is definite, and the shortest
same_width : (v w : Width) → (v ≡ w) ⊎ (v ≡ w → ⊥)
same_width Direct Direct = inl refl
same_width One One = inl refl
same_width Two Two = inl refl
same_width Four Four = inl refl
same_width Eight Eight = inl refl
same_width Indefinite Indefinite = inl refl
same_width _ _ = inr (λ e. cc e)

shortest_so : (o : KeyOrder) (at : ℕ) (m : Major) (w : Width) (n : ℕ) → Never (OfHead (strict o) at m w n) → w ≡ shortest n
shortest_so o at m w n none = elim (same_width w (shortest n)) [ inl e ↦ e | inr f ↦ absurd (none _ (refl, f, refl)) ]

short_begun : (o : KeyOrder) (b : Bounds) (fs : List Container) (t x : List ℕ) (e : ItemEventsView) (w : Width) (kind : EventKind) (m : Major) (n : ℕ) → mark_of w kind ≡ a_head m w n → IsBegun (strict o) b fs t x e w kind → x ≡ shortest_head m n
short_begun o b fs t x e w kind m n is i =
    let f : w ≢ Indefinite = λ opener. no_openers o b fs t x e w m n kind is opener i in
    let d = definite b.depth fs m w n x i.next f (subst (λ (y : Mark). IsTaking b.depth (at_item fs) y x i.next) is i.taking) in
    let clean : Never (OfHead (strict o) (length t) m w n) =
    λ c h. i.clean c (subst (λ (y : Mark). OfMark (strict o) (length t) (at_item fs) y c) (sym is) (head-count (strict o) (length t) m w n c f h)) in
    d.bytes_are ∙ ap (λ (y : Width). head m y n) (shortest_so o (length t) m w n clean)

-- the item that is expected has begun
pub begun_in : (v : OpenItems) (b : Bounds) (event : Event) (m : Major) (n : ℕ) (t x : List ℕ) (e : ItemEventsView) → mark_of event.width event.kind ≡ a_head m event.width n → (h : HasHeadCome v b event t x e) → ((reason : Reason) → IsHeadFault event.width n reason → ⊥)
    → IsBegun (strict v.order) b (frames_in h.fs) t x e event.width event.kind
begun_in v b event m n t x e is h fine = record {
  next = h.next;
  taking = h.taking;
  item = λ g. no_break h.fs h.next (subst (λ (k : EventKind). IsTaking b.depth (at_item (frames_in h.fs)) (mark_of event.width k) x h.next) g h.taking).1;
  clean = λ c g. let f = fault_of (at_item (frames_in h.fs)) (mark_of event.width event.kind) (strict v.order) (length t) c g in fine f.0 (subst (λ (y : Mark). IsFault (strict v.order) y f.0) is f.1).1;
  proper = h.proper;
  at = h.at;
}

-- memory is refused after a head that has no complaint
pub begun_no_memory : (v : OpenItems) (b : Bounds) (w : Width) (kind : EventKind) (t x : List ℕ) (e : ItemEventsView) (f : Refusal) (taken : ℕ) (to : Option (List ℕ)) (fs : List Frame) → AreOpenClean v b fs → t ≡ bytes_before fs
    → IsBegun (strict v.order) b (frames_in fs) t x e w kind → taken ≡ e.machine.taken → f ≡ refusal Memory taken taken → AreRefused (strict v.order) b (t ++ x) to f
begun_no_memory v b w kind t x e f taken to fs around before i all is =
    memory_part v.order b fs around.are around.distinct x (t ++ x) to f taken (ap (λ (y : List ℕ). y ++ x) before) (all ∙ i.at.agrees.agrees.taken) is (at-reached b e (t ++ x) i.next i.at)
    (mark-undecided (strict v.order) b (frames_in fs) (bytes_before fs) x (mark_of w kind) i.next i.taking)

-- what is stored now
pub begun_kept : (v new : OpenItems) (b : Bounds) (event : Event) (m : Major) (n : ℕ) (t x : List ℕ) (e : ItemEventsView) → mark_of event.width event.kind ≡ a_head m event.width n → (h : HasHeadCome v b event t x e) → ((reason : Reason) → IsHeadFault event.width n reason → ⊥)
    → new.order ≡ v.order → new.left ≡ v.left → ((fs : List Frame) → IsKept (view_value v.keys) fs [] → IsKept (view_value new.keys) fs (shortest_head m n)) → HasBegunIn new b event.width event.kind t x e
begun_kept v new b event m n t x e is h fine same same_left kept =
    let i = begun_in v b event m n t x e is h fine in
    record {
      fs = h.fs;
      around = around_as v.order new b h.fs (sym same) h.around.are h.around.distinct;
      none = same_left ∙ h.none;
      kept = subst (IsKept (view_value new.keys) h.fs) (sym (short_begun v.order b (frames_in h.fs) t x e event.width event.kind m n is i)) (kept h.fs h.kept);
      taken = h.taken;
      begun = subst (λ (o : KeyOrder). IsBegun (strict o) b (frames_in h.fs) t x e event.width event.kind) (sym same) i;
    }

-- ---- an item of one head

same_bytes : (t x y more : List ℕ) (n : ℕ) → n ≡ length (t ++ x) → n ≡ length (t ++ y) → y ≡ x ++ more → y ≡ x
same_bytes t x y more n e g is =
    let none : more ≡ [] = nil_from_length more (omega (arith, e, g, length-append t x, length-append t y, ap length is, length-append x more)) in
    is ∙ ap (λ (z : List ℕ). x ++ z) none ∙ append-nil x

module _ (v : OpenItems) (b : Bounds) (w : Width) (kind : EventKind) (t x : List ℕ) (e : ItemEventsView) (h : HasBegunIn v b w kind t x e) where
  read_ended : (u : Value) → ReadsItem (strict v.order) b (frames_in h.fs) t x None None e u → HasEnded v b e (t ++ x)
  read_ended u m =
      let same : spell m.item ≡ x = same_bytes t x (spell m.item) m.taken.more e.machine.taken (h.begun.at.agrees.agrees.taken) (m.at.agrees.agrees.taken) m.taken.are in
      record {
        fs = h.fs;
        around = h.around;
        item = m.item;
        spelled = m.spelled;
        within = omega (arith, m.within, frames_length h.fs);
        clean = subst (λ (y : List ℕ). Never (Complains (strict v.order) (length y) m.item)) h.taken m.clean;
        none = h.none;
        kept = subst (IsKept (view_value v.keys) h.fs) (sym same) h.kept;
        taken = ap (λ (y : List ℕ). y ++ x) h.taken ∙ ap (λ (y : List ℕ). bytes_before h.fs ++ y) (sym same);
        at = at-as b e (t ++ spell m.item) (t ++ x) (close (frames_in h.fs)) (close (frames_in h.fs)) (ap (λ (y : List ℕ). t ++ y) same) refl m.at;
      }

pub leaf_ended : (v : OpenItems) (b : Bounds) (w : Width) (kind : EventKind) (t x : List ℕ) (e : ItemEventsView) → (h : HasBegunIn v b w kind t x e) → IsLeaf (mark_of w kind) → HasEnded v b e (t ++ x)
leaf_ended v b w kind t x e h l = let r = leaf_reads v.order b (frames_in h.fs) t x e w None kind h.begun l in read_ended v b w kind t x e h r.0 r.1

-- ---- a string opens

pub string_begun : (v new : OpenItems) (b : Bounds) (w : Width) (kind : EventKind) (t x : List ℕ) (e : ItemEventsView) (is_text : Bool) (n : ℕ) → HasBegunIn v b w kind t x e → kind ≡ string_kind is_text (Some n) → 0 < n
    → new.order ≡ v.order → new.keys ≡ v.keys → new.left ≡ n → new.is_text ≡ is_text → HasChecked new.check [] → Agrees new b e (t ++ x)
string_begun v new b w kind t x e is_text n h is some same_order same_keys left text_so checked =
    let i = subst (IsBegun (strict v.order) b (frames_in h.fs) t x e w) is h.begun in
    let k = string-head (strict v.order) b (frames_in h.fs) t x e w is_text n i in
    let expected = string-expected (strict v.order) b (frames_in h.fs) t x e w is_text n i in
    let bytes_are : x ≡ head (string_major new.is_text) w n ++ [] = k.bytes_are ∙ ap (λ (q : Bool). head (string_major q) w n) (sym text_so) ∙ sym (append-nil (head (string_major new.is_text) w n)) in
    inr (inl (record {
      fs = h.fs;
      around = around_as v.order new b h.fs (sym same_order) h.around.are h.around.distinct;
      w = w;
      n = n;
      q = [];
      some = omega (arith, left, some);
      count = omega (arith, left);
      holds = k.holds;
      clean = subst (λ (o : KeyOrder). Never (OfHead (strict o) (length (bytes_before h.fs)) (string_major new.is_text) w n)) (sym same_order)
          (subst (λ (q : Bool). Never (OfHead (strict v.order) (length (bytes_before h.fs)) (string_major q) w n)) (sym text_so) (subst (λ (y : List ℕ). Never (OfHead (strict v.order) (length y) (string_major is_text) w n)) h.taken k.clean));
      are_bytes = tt;
      kept = subst (IsKept (view_value new.keys) h.fs) bytes_are (subst (λ (y : LastKeys). IsKept (view_value y) h.fs x) (sym same_keys) h.kept);
      taken = ap (λ (y : List ℕ). y ++ x) h.taken ∙ ap (λ (y : List ℕ). bytes_before h.fs ++ y) bytes_are;
      at = at-as b e (t ++ x) (t ++ x) (payload false (string_major is_text) n (frames_in h.fs)) (payload false (string_major new.is_text) new.left (frames_in h.fs)) refl
          (ap (λ (q : Bool). payload false (string_major q) n (frames_in h.fs)) (sym text_so) ∙ ap (λ (y : ℕ). payload false (string_major new.is_text) y (frames_in h.fs)) (sym left)) expected;
      checked = λ q. checked;
    }))

-- ---- a container opens

opened_in : (v new : OpenItems) (b : Bounds) (w : Width) (kind : EventKind) (t x : List ℕ) (e : ItemEventsView) (h : HasBegunIn v b w kind t x e) (f : Frame) → new.order ≡ v.order → new.left ≡ v.left → HasOpened v.order b h.fs t x e f
    → IsKept (view_value new.keys) (f ∷ h.fs) [] → Agrees new b e (t ++ x)
opened_in v new b w kind t x e h f same_order same_left m kept = inl (record {
  fs = f ∷ h.fs;
  around = around_as v.order new b (f ∷ h.fs) (sym same_order) m.are m.distinct;
  none = same_left ∙ h.none;
  kept = kept;
  taken = ap (λ (y : List ℕ). y ++ x) h.taken ∙ ap (λ (y : List ℕ). bytes_before h.fs ++ y) (sym m.head_is) ∙ sym (before_more h.fs f);
  at = m.at;
})

pub other_begun : (v new : OpenItems) (b : Bounds) (w : Width) (kind : EventKind) (t x : List ℕ) (e : ItemEventsView) → HasBegunIn v b w kind t x e → IsOther (mark_of w kind) → new.order ≡ v.order → new.left ≡ v.left
    → ((f : Frame) (fs : List Frame) (p : List ℕ) → expected_of f ≡ Member → IsKept (view_value v.keys) fs p → before f ≡ p → IsKept (view_value new.keys) (f ∷ fs) []) → Agrees new b e (t ++ x)
other_begun v new b w kind t x e h l same_order same_left step =
    let (f, expected, m) = other_opens v.order b h.fs t x e w h.around.are h.around.distinct h.taken kind h.begun l in
    opened_in v new b w kind t x e h f same_order same_left m (step f h.fs x expected h.kept m.head_is)

pub map_begun : (v new : OpenItems) (b : Bounds) (w : Width) (kind : EventKind) (t x : List ℕ) (e : ItemEventsView) → HasBegunIn v b w kind t x e → IsMap (mark_of w kind) → new.order ≡ v.order → new.left ≡ v.left
    → ((w : Width) (u : Spelling) (es : SpelledEntries) (fs : List Frame) (p : List ℕ) → IsKept (view_value v.keys) fs p → before (a_key w no_entries u es) ≡ p → IsKept (view_value new.keys) (a_key w no_entries u es ∷ fs) []) → Agrees new b e (t ++ x)
map_begun v new b w kind t x e h l same_order same_left step =
    let (u, es, m) = pairs_open v.order b h.fs t x e w h.around.are h.around.distinct h.taken kind h.begun l in
    opened_in v new b w kind t x e h (a_key w no_entries u es) same_order same_left m (step w u es h.fs x h.kept m.head_is)

-- there is space for it
module _ (v : OpenItems) (b : Bounds) (w : Width) (kind : EventKind) (t x : List ℕ) (e : ItemEventsView) (h : HasBegunIn v b w kind t x e) where
  space_so : IsOther (mark_of w kind) ⊎ IsMap (mark_of w kind) → length h.fs < b.depth
  space_so l = go kind h.begun l
    where
      go : (kind : EventKind) → IsBegun (strict v.order) b (frames_in h.fs) t x e w kind → IsOther (mark_of w kind) ⊎ IsMap (mark_of w kind) → length h.fs < b.depth
      go (kinds.Array (Some n)) i l = let d = definite b.depth (frames_in h.fs) majors.Array w n x i.next (proper-definite w i.proper) i.taking in omega (arith, d.follows.0, frames_length h.fs)
      go (kinds.Map (Some n)) i l = let d = definite b.depth (frames_in h.fs) majors.Map w n x i.next (proper-definite w i.proper) i.taking in omega (arith, d.follows.0, frames_length h.fs)
      go (kinds.Tag n) i l = let d = definite b.depth (frames_in h.fs) majors.Tag w n x i.next (never-open b.depth (frames_in h.fs) majors.Tag w n x i.next tt i.taking) i.taking in omega (arith, d.follows.0, frames_length h.fs)
      go (kinds.Array None) i l = absurd (elim l [ inl y ↦ omega (arith, y) | inr y ↦ y ])
      go (kinds.Map None) i l = absurd (elim l [ inl y ↦ y | inr y ↦ omega (arith, y) ])
      go _ i l = elim l [ inl y ↦ absurd y | inr y ↦ absurd y ]

  pub space_levels : IsOther (mark_of w kind) ⊎ IsMap (mark_of w kind) → length (view_value v.keys).levels < MAX_DEPTH
  space_levels l = omega (arith, kept_levels (view_value v.keys) h.fs x h.kept, space_so l, h.begun.at.limits.0)

  pub space_keys : IsOther (mark_of w kind) ⊎ IsMap (mark_of w kind) → (view_value v.keys).open_keys ≤ MAX_DEPTH
  space_keys l = omega (arith, kept_keys (view_value v.keys) h.fs x h.kept, space_so l, h.begun.at.limits.0)

-- ---- which head it is

pub string_of : (is_text : Bool) (w : Width) (kind : EventKind) (n : ℕ) → mark_of w kind ≡ a_head (string_major is_text) w n → 0 < n → kind ≡ string_kind is_text (Some n)
string_of true w (kinds.Text (Some k)) n is some = cc is
string_of true w (kinds.Text None) n is some = let none : 0 ≡ n = cc is in absurd (omega (arith, none, some))
string_of false w (kinds.Bytes (Some k)) n is some = cc is
string_of false w (kinds.Bytes None) n is some = let none : 0 ≡ n = cc is in absurd (omega (arith, none, some))
string_of true w _ n is some = absurd (cc is)
string_of false w _ n is some = absurd (cc is)

pub map_of : (w : Width) (kind : EventKind) (m : Major) (n : ℕ) → mark_of w kind ≡ a_head m w n → m ≡ majors.Map → GoesOn m n → IsMap (mark_of w kind)
map_of w kind m n is map more = subst IsMap (sym is) (subst (λ (k : Major). IsMap (a_head k w n)) (sym map) (subst (λ (k : Major). GoesOn k n) map more))

pub other_of : (w : Width) (kind : EventKind) (m : Major) (n : ℕ) → mark_of w kind ≡ a_head m w n → GoesOn m n → (m ≡ majors.Bytes → ⊥) → (m ≡ majors.Text → ⊥) → (m ≡ majors.Map → ⊥) → IsOther (mark_of w kind)
other_of w kind m n is more bytes text map = subst IsOther (sym is) (go m more bytes text map)
  where
    go : (m : Major) → GoesOn m n → (m ≡ majors.Bytes → ⊥) → (m ≡ majors.Text → ⊥) → (m ≡ majors.Map → ⊥) → IsOther (a_head m w n)
    go majors.Array more bytes text map = more
    go majors.Tag more bytes text map = tt
    go majors.Bytes more bytes text map = absurd (bytes refl)
    go majors.Text more bytes text map = absurd (text refl)
    go majors.Map more bytes text map = absurd (map refl)
    go _ more bytes text map = absurd more

-- an event where an item is expected has one, if it is no break
pub head_comes : (d : ℕ) (fs : List Frame) (m : Mark) (x : List ℕ) (next : Place) → IsTaking d (at_item (frames_in fs)) m x next → ((major : Major) (w : Width) (n : ℕ) → m ≢ a_head major w n) → ⊥
head_comes d fs (a_head m w n) x next h none = none m w n refl
head_comes d fs (a_chunk w n) x next h none = h
head_comes d fs a_byte x next h none = h
head_comes d fs a_break x next h none = no_break fs next h.1

-- an event with the head of a map
pub map_head : (kind : EventKind) (w : Width) (m : Major) (n : ℕ) → mark_of w kind ≡ a_head m w n → m ≡ majors.Map → IsMapHead kind
map_head kind w m n is e = go kind (is ∙ ap (λ (k : Major). a_head k w n) e)
  where
    go : (kind : EventKind) → mark_of w kind ≡ a_head majors.Map w n → IsMapHead kind
    go (kinds.Map k) h = tt
    go _ h = absurd (cc h)
