-- From one step to the next: what contracts see of the fields, and what holds of them.
use Rattle.std.proofs.Common.{◌≡◌, ℕ, Option, Some, None, List, [], ◌++◌, length, refl, sym, ap, subst, arith, append-nil, length-append, IsTrue}
use Rattle.cbor_head.specs.Prelude.{Bounds, AreBounds, strict}
use Rattle.cbor_head.specs.declared.{keys.Keys.Keys, order.KeyOrder.KeyOrder, reason.Reason.TheVariants.Memory, reason.Refusal.Refusal}
use Rattle.theory_automaton.specs.{Trace.Mark, Marks.marks_of}
use Rattle.cbor_machine.specs.declared.step.Out.TheVariants as outs
use Rattle.cbor_machine.specs.{MachineView.MachineView, Machine.Represents, Machine.KeepsLimits, declared.step.Out.Out}
use Rattle.cbor_machine.specs.NextEvent.{ItemEventsView, AgreesBetween}
use Rattle.theory_verdicts.{specs.Readers.IsUnread, proofs.KindFrames.keeps_start}
use Rattle.cbor_strict.proofs.StrictReading.{agrees_first, same_bounds, first_bounds}
use Rattle.cbor_strict.specs.{declared.last_keys.LastKeys.LastKeys, declared.open_items.OpenItems.OpenItems, inner.LastKeys.view_value, inner.LastKeys.IsKept}
use Rattle.cbor_strict.{specs.inner.StrictEvents.bounds_of, proofs.KeptReading.agrees_little}
use Rattle.cbor_stream.specs.StrictMachine.{StrictMachineView, AgreesAmid, IsStrictResult, IsStrictlyRefused, IsLive}
use Rattle.cbor_stream.specs.inner.Amid.{IsAmid, IsStepResult, IsRefusedNow, AreSound}
use Rattle.cbor_stream.{specs.Reasons.IsStrictReason, proofs.Amid.amid_represents, proofs.Clean.amid_clean, proofs.Clean.amid_counted}

-- as contracts see it
abbrev pub shown : MachineView → OpenItems → Keys → Option Refusal → StrictMachineView
shown m v keys r = record {
  machine = m;
  order = v.order;
  keys = keys;
  spans = length (view_value v.keys).spans;
  kept = length (view_value v.keys).bytes;
  refusal = r;
  refused = v.memory;
  inner = record { items = v };
}

pub agrees_amid : (m : MachineView) (v : OpenItems) (keys : Keys) (t : List ℕ) (ms : List Mark) → IsAmid m v (bounds_of m keys) t ms → AgreesAmid (shown m v keys None) t ms
agrees_amid m v keys t ms a =
    let b = bounds_of m keys in
    record {
      agrees = amid_represents m v b t ms a;
      clean = amid_clean m v b t ms a;
      spans = λ s i. (amid_counted m v b t ms a s i).spans;
      kept = λ s i. (amid_counted m v b t ms a s i).kept;
      live = refl;
      inner = a;
    }

-- ---- between two calls

pub sound_live : (m : MachineView) (v : OpenItems) (keys : Keys) (b : Bounds) (t : List ℕ) (ms : List Mark) → b.keys ≡ keys → AreBounds (bounds_of m keys) → IsAmid m v b t ms → AreSound m v keys None
sound_live m v keys b t ms asks limits a =
    let s = amid_represents m v b t ms a in
    let little = agrees_little v b a.began a.before a.agrees in
    let before = a.between.agrees in
    record {
      somewhere = λ n. record { b = b; asks = asks; t = t; ms = ms; amid = a };
      stopped = tt;
      memory = tt;
      limits = limits;
      within = s.bounded;
      limited = s.limited;
      spans = omega (arith, little.spans, before.bounded, a.depth);
      kept = omega (arith, little.kept, before.taken, s.taken, ap length a.splits, length-append a.before a.since);
    }

-- ---- before the first byte

abbrev pub events_of : MachineView → ItemEventsView
events_of m = record { machine = m; piece = []; refusal = None }

module _ (limits : Bounds) (keys : Keys) (m : MachineView) (v : OpenItems) (asks : keys ≡ limits.keys) (within : AreBounds limits) (same : (m.depth ≡ limits.depth) × (m.bytes ≡ limits.bytes)) (s : Represents m [] []) (none : v.left ≡ 0) (kept : IsKept (view_value v.keys) [] []) where
  first_amid : IsAmid m v limits [] []
  first_amid =
      let between : AgreesBetween m [] [] = record { agrees = s; whole = refl } in
      record {
        began = events_of m;
        before = [];
        since = [];
        splits = refl;
        between = between;
        led = λ u ns h. subst (λ (x : List ℕ). Represents m x ns) (sym (append-nil u)) h;
        depth = refl;
        bytes = refl;
        agrees = agrees_first limits (events_of m) v within refl same between none kept;
        keeps = keeps_start limits (strict v.order);
        kind = λ y. tt;
      }

  pub starts_amid : AgreesAmid (shown m v keys None) [] []
  starts_amid = agrees_amid m v keys [] [] (subst (λ (b : Bounds). IsAmid m v b [] []) (sym (first_bounds limits keys (events_of m) asks same)) first_amid)

  pub starts_sound : AreSound m v keys None
  starts_sound = sound_live m v keys limits [] [] (sym asks) (omega (arith, within.0, same.0), omega (arith, within.1, same.1)) first_amid

  pub starts_bounds : bounds_of m keys ≡ limits
  starts_bounds = first_bounds limits keys (events_of m) asks same

module _ (m new : MachineView) (v w : OpenItems) (keys : Keys) (limits : KeepsLimits m new) (within : AreBounds (bounds_of m keys)) where
  pub limits_so : AreBounds (bounds_of new keys)
  limits_so = (omega (arith, within.0, limits.depth), omega (arith, within.1, limits.bytes))

  -- nothing is stored after a refusal
  pub sound_refused : (f : Refusal) (last : LastKeys) → w.order ≡ v.order → new.taken ≡ f.read → IsStrictReason v.order f.reason → IsKept (view_value last) [] [] → (f.reason ≡ Memory → IsTrue w.memory) → AreSound new (record w { keys = last }) keys (Some f)
  sound_refused f last order taken reason kept memory = record {
    somewhere = λ n. absurd (cc n);
    stopped = (sym taken, subst (λ (o : KeyOrder). IsStrictReason o f.reason) (sym order) reason, ap length kept.spans, ap length kept.bytes);
    memory = memory;
    limits = limits_so;
    within = limits.open_count;
    limited = limits.taken;
    spans = omega (arith, ap length kept.spans);
    kept = omega (arith, ap length kept.bytes);
  }

  pub there : (t : List ℕ) (ms : List Mark) → IsAmid new w (bounds_of m keys) t ms → AgreesAmid (shown new w keys None) t ms
  there t ms a = agrees_amid new w keys t ms (subst (λ (b : Bounds). IsAmid new w b t ms) (same_bounds m new keys limits) a)

  -- what a step returns, as contracts see it
  pub result_so : (out : Out) (t bs : List ℕ) (ms : List Mark) → IsLive out → IsStepResult out new w (bounds_of m keys) t bs ms → IsStrictResult out (shown new w keys None) t bs ms
  result_so outs.More t bs ms live a = there (t ++ bs) ms a
  result_so (outs.Event e) t bs ms live a = (a.0, there (t ++ bs) (ms ++ marks_of e.width e.kind) a.1)
  result_so outs.Done t bs ms live a = (a.0, a.1, there t ms a.2)
  result_so (outs.Refused f) t bs ms live a = absurd live

  pub refused_so : (f : Refusal) (last : LastKeys) (all : List ℕ) (ms : List Mark) → IsRefusedNow f new w (bounds_of m keys) all ms → IsStrictlyRefused f (shown new (record w { keys = last }) keys (Some f)) all ms
  refused_so f last all ms n = record {
    read = n.read;
    at_once = n.at_once;
    unread = λ more. subst (λ (b : Bounds). IsUnread b (strict w.order) (all ++ more) f) (same_bounds m new keys limits) (n.unread more);
  }

  -- some bytes led there
  pub sound_so : (out : Out) (b : Bounds) (t bs : List ℕ) (ms : List Mark) → b.keys ≡ keys → IsLive out → IsStepResult out new w b t bs ms → AreSound new w keys None
  sound_so outs.More b t bs ms asks live a = sound_live new w keys b (t ++ bs) ms asks limits_so a
  sound_so (outs.Event e) b t bs ms asks live a = sound_live new w keys b (t ++ bs) (ms ++ marks_of e.width e.kind) asks limits_so a.1
  sound_so outs.Done b t bs ms asks live a = sound_live new w keys b t ms asks limits_so a.2
  sound_so (outs.Refused f) b t bs ms asks live a = absurd live

pub live_of : (out : Out) → ((f : Refusal) → out ≡ outs.Refused f → ⊥) → IsLive out
live_of (outs.Refused f) none = none f refl
live_of _ none = tt
