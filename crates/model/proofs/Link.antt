-- One link, seen from its two ends: what holds of it, and what each change keeps. No state is in sight. Assumes nothing.
use Prim.Native.Nat.{ℕ, suc, ◌+◌, ◌≤◌}
use native.Mathlib.Omega.{arith}
use mathlib.Core.Path.{◌≡◌, refl, ◌∙◌}
use mathlib.Core.Logic.{◌⊎◌, inl, inr}
use mathlib.Core.Bool.{Bool, true, false, not, cond, ◌||◌}
use mathlib.Core.List.{List, [], ◌∷◌, ◌++◌, tail}
use Rattle.model.specs.State.{Packet}
use Rattle.model.proofs.Below.{look, clash}

-- Partial reversal marks the In ends at the opening; full reversal is the same network with no end ever marked.
pub data Mode : Type 0 where
  partial : Mode
  full : Mode

-- packets with the bit a, then packets with the bit b
abbrev pub Runs : Bool → Bool → List Packet → Type 0
Runs a b [] = Unit {0}
Runs a b (p ∷ ps) = ((p.bit ≡ a) × Runs a b ps) ⊎ ((p.bit ≡ b) × Runs b b ps)

runs_new : (a b : Bool) (l : List Packet) → Runs b b l → Runs a b l
runs_new a b [] r = tt
runs_new a b (c ∷ cs) (inl r) = inr r
runs_new a b (c ∷ cs) (inr r) = inr r

runs_old : (a b : Bool) (l : List Packet) → Runs a a l → Runs a b l
runs_old a b [] r = tt
runs_old a b (c ∷ cs) (inl r) = inl (r.0, runs_old a b cs r.1)
runs_old a b (c ∷ cs) (inr r) = inl (r.0, runs_old a b cs r.1)

runs_tail : (a b : Bool) (l : List Packet) → Runs a b l → Runs a b (tail l)
runs_tail a b [] r = tt
runs_tail a b (c ∷ cs) (inl r) = r.1
runs_tail a b (c ∷ cs) (inr r) = runs_new a b cs r.1

runs_push : (a b : Bool) (l : List Packet) (p : Packet) → p.bit ≡ b → Runs a b l → Runs a b (l ++ (p ∷ []))
runs_push a b [] p e r = inr (e, tt)
runs_push a b (c ∷ cs) p e (inl r) = inl (r.0, runs_push a b cs p e r.1)
runs_push a b (c ∷ cs) p e (inr r) = inr (r.0, runs_push b b cs p e r.1)

-- the oldest has not the first bit: none of the rest has
runs_news : (a b : Bool) (p : Packet) (ps : List Packet) → Runs a b (p ∷ ps) → (p.bit ≡ a → ⊥) → Runs b b ps
runs_news a b p ps (inl r) n = absurd (n r.0)
runs_news a b p ps (inr r) n = r.1

runs_head : (a : Bool) (p : Packet) (ps : List Packet) → Runs a a (p ∷ ps) → p.bit ≡ a
runs_head a p ps (inl r) = r.0
runs_head a p ps (inr r) = r.0

-- an end, the packets of its lane, and the height of its node
pub record End : Type 0 where
  pub out : Bool
  pub mark : Bool
  pub local : Bool
  pub remote : Bool
  pub lane : List Packet
  pub height : ℕ

abbrev flip : Bool → Bool → Bool
flip true b = not b
flip false b = b

-- The true arrow goes from e to f: e is Out, and f has yet to hear of it where f is Out too. Bits and lanes:
pub record Wire (e f : End) : Type 0 where
  pub leads : e.out ≡ true
  pub back : f.local ≡ e.remote
  pub forth : e.local ≡ flip f.out f.remote
  pub behind : Runs e.remote e.remote f.lane
  pub ahead : Runs f.remote e.local e.lane

-- how the height of the tail of a true arrow stands to that of its head, whose end is marked or not
abbrev pub Near : Mode → Bool → ℕ → ℕ → Type 0
Near partial m a b = a ≡ b + cond m 0 1
Near full m a b = (b ≤ a) × (a ≤ suc b)

pub record Arrow (mode : Mode) (e f : End) : Type 0 where
  pub wire : Wire e f
  pub clear : e.mark ≡ false
  pub near : Near mode f.mark e.height f.height

abbrev pub Link : Mode → End → End → Type 0
Link mode e f = Arrow mode e f ⊎ Arrow mode f e

pub link_sym : {mode : Mode} {e f : End} → Link mode e f → Link mode f e
link_sym (inl a) = inr a
link_sym (inr a) = inl a

-- ---- a packet goes in; the oldest comes out; news comes to an end
abbrev pub push : Packet → End → End
push p e =
    record { out = e.out; mark = e.mark; local = e.local; remote = e.remote; lane = e.lane ++ (p ∷ []); height = e.height }

abbrev pub pop : End → End
pop e = record { out = e.out; mark = e.mark; local = e.local; remote = e.remote; lane = tail e.lane; height = e.height }

abbrev pub hear : End → End
hear e = record { out = false; mark = e.mark; local = e.local; remote = not e.remote; lane = e.lane; height = e.height }

module _ {mode : Mode} (e f : End) where
  pub link_push : (p : Packet) → p.bit ≡ e.local → Link mode e f → Link mode (push p e) f
  link_push p b (inl a) =
      inl
      (record {
        wire = record {
          leads = a.wire.leads;
          back = a.wire.back;
          forth = a.wire.forth;
          behind = a.wire.behind;
          ahead = runs_push f.remote e.local e.lane p b a.wire.ahead;
        };
        clear = a.clear;
        near = a.near;
      })
  link_push p b (inr a) =
      inr
      (record {
        wire = record {
          leads = a.wire.leads;
          back = a.wire.back;
          forth = a.wire.forth;
          behind = runs_push f.remote f.remote e.lane p (b ∙ a.wire.back) a.wire.behind;
          ahead = a.wire.ahead;
        };
        clear = a.clear;
        near = a.near;
      })

  pub link_pop : Link mode e f → Link mode (pop e) f
  link_pop (inl a) =
      inl
      (record {
        wire = record {
          leads = a.wire.leads;
          back = a.wire.back;
          forth = a.wire.forth;
          behind = a.wire.behind;
          ahead = runs_tail f.remote e.local e.lane a.wire.ahead;
        };
        clear = a.clear;
        near = a.near;
      })
  link_pop (inr a) =
      inr
      (record {
        wire = record {
          leads = a.wire.leads;
          back = a.wire.back;
          forth = a.wire.forth;
          behind = runs_tail f.remote f.remote e.lane a.wire.behind;
          ahead = a.wire.ahead;
        };
        clear = a.clear;
        near = a.near;
      })

  -- a bit that the Out end f does not know comes only along the true arrow, and the packets behind it have it too
  pub link_hear : (p : Packet) (ps : List Packet) → e.lane ≡ p ∷ ps → f.out ≡ true → (p.bit ≡ f.remote → ⊥)
      → Link mode e f → Link mode (pop e) (hear f)
  link_hear p ps b o n (inl a) =
      let all : Runs e.local e.local ps = runs_news f.remote e.local p ps (rw b at a.wire.ahead) n in
      let new : e.local ≡ not f.remote = cc in
      inl
      (record {
        wire = record { leads = a.wire.leads; back = a.wire.back; forth = new; behind = a.wire.behind; ahead = rw (b, ← new) all };
        clear = a.clear;
        near = a.near;
      })
  link_hear p ps b o n (inr a) = absurd (n (runs_head f.remote p ps (rw b at a.wire.behind)))

  -- at an In end no packet is out of step
  pub in_step : (p : Packet) (ps : List Packet) → e.lane ≡ p ∷ ps → f.out ≡ false → Link mode e f → p.bit ≡ f.remote
  in_step p ps b o (inl a) =
      let known : e.local ≡ f.remote = cc in
      runs_head f.remote p ps (rw (known, b) at a.wire.ahead)
  in_step p ps b o (inr a) = absurd (clash a.wire.leads o)

  -- the ends are never both In
  pub one_out : Link mode e f → e.out ≡ false → f.out ≡ false → ⊥
  one_out (inl a) o p = clash a.wire.leads o
  one_out (inr a) o p = clash a.wire.leads p

-- ---- a node turns: `any` says whether one of its ends is marked
abbrev pub grow : Mode → Bool → ℕ
grow partial any = cond any 1 2
grow full any = 1

abbrev reversed : Bool → End → Bool
reversed any e = cond any e.mark true

abbrev pub turned : Mode → Bool → End → End
turned mode any e =
    record {
      out = reversed any e || e.out;
      mark = not (reversed any e || e.out);
      local = cond (reversed any e) (not e.local) e.local;
      remote = e.remote;
      lane = e.lane;
      height = e.height + grow mode any;
    }

pub grow_suc : (mode : Mode) (any : Bool) (t a : ℕ) → t ≤ a → suc t ≤ a + grow mode any
grow_suc partial true t a h = omega arith
grow_suc partial false t a h = omega arith
grow_suc full any t a h = omega arith

-- the head of an agreed arrow turns: its end is reversed, or stays and is marked
near_reversed : (mode : Mode) (any m : Bool) (a b : ℕ) → (any ≡ false → m ≡ false) → cond any m true ≡ true
    → Near mode m a b → Near mode false (b + grow mode any) a
near_reversed partial true true a b g r h = omega arith
near_reversed partial true false a b g r h = absurd (clash r refl)
near_reversed partial false true a b g r h = absurd (clash refl (g refl))
near_reversed partial false false a b g r h = omega arith
near_reversed full any m a b g r h = omega (arith, h)

near_kept : (mode : Mode) (any m : Bool) (a b : ℕ) → (mode ≡ full → any ≡ false) → cond any m true ≡ false
    → Near mode m a b → Near mode true a (b + grow mode any)
near_kept partial true true a b u r h = absurd (clash refl r)
near_kept partial true false a b u r h = omega arith
near_kept partial false m a b u r h = absurd (clash refl r)
near_kept full true m a b u r h = absurd (clash refl (u refl))
near_kept full false m a b u r h = absurd (clash refl r)

pub link_turn : (mode : Mode) (any : Bool) (e f : End) → e.out ≡ false → (any ≡ false → e.mark ≡ false) → (mode ≡ full → any ≡ false)
    → Link mode e f → Link mode (turned mode any e) f
link_turn mode any e f o g u (inl a) = absurd (clash a.wire.leads o)
link_turn mode any e f o g u (inr a) =
    let known : f.local ≡ e.remote = cc in
    elim (look (reversed any e)) [
      | inl r ↦
          inl
          (record {
            wire = record {
              leads = cc;
              back = known;
              forth = cc;
              behind = rw known at a.wire.ahead;
              ahead = runs_old f.remote _ e.lane a.wire.behind;
            };
            clear = cc;
            near = rw a.clear (near_reversed mode any e.mark f.height e.height g r a.near);
          })
      | inr r ↦
          let marked : (turned mode any e).mark ≡ true = cc in
          inr
          (record {
            wire = record { leads = a.wire.leads; back = cc; forth = cc; behind = a.wire.behind; ahead = a.wire.ahead };
            clear = a.clear;
            near = rw marked (near_kept mode any e.mark f.height e.height u r a.near);
          })
    ]

-- heights at the two ends of a link differ by one at most
near_by : (mode : Mode) (m : Bool) (a b : ℕ) → Near mode m a b → (b ≤ a) × (a ≤ suc b)
near_by partial true a b h = omega arith
near_by partial false a b h = omega arith
near_by full m a b h = h

pub level : (mode : Mode) (e f : End) → Link mode e f → e.height ≤ suc f.height
level mode e f (inl a) = omega (arith, near_by mode f.mark e.height f.height a.near)
level mode e f (inr a) = omega (arith, near_by mode e.mark f.height e.height a.near)

-- ---- the opening: the tail is Out, the head In, and marked unless the reversal is full
abbrev pub fresh : Bool → Bool → End
fresh out mark = record { out = out; mark = mark; local = false; remote = false; lane = []; height = 0 }

abbrev pub first_mark : Mode → Bool
first_mark partial = true
first_mark full = false

first_near : (mode : Mode) → Near mode (first_mark mode) 0 0
first_near partial = refl
first_near full = omega arith

pub first_arrow : (mode : Mode) → Arrow mode (fresh true false) (fresh false (first_mark mode))
first_arrow mode =
    record { wire = record { leads = refl; back = refl; forth = refl; behind = tt; ahead = tt }; clear = refl; near = first_near mode }
