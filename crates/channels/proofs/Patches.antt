-- The buffers with one channel's parts replaced: its own parts are the new ones, those of the others and what follows them are as they were.
use mathlib.Core.Path.{◌≡◌, sym, ap, ap₂, ◌∙◌}
use mathlib.Core.Logic.{◌≢◌}
use mathlib.Core.List.{List, ◌++◌}
use Prim.Native.Nat.{ℕ, zero, suc, ◌+◌, ◌*◌, ◌-◌, ◌≤◌, ◌<◌}
use native.Mathlib.Nat.{suc-mul, zero-mul}
use native.Mathlib.Decide.{dec_lt}
use native.Mathlib.Omega.{arith}
use lib.ListN.{length, take, drop, take-append-drop}
use lib.Seq.{length-take-le, drop-append-add, drop-drop, take-add}
use Rattle.trellis.specs.Lists.{part, patch, blocks}
use Rattle.trellis.proofs.Loops.{blocks_ext}
use Rattle.machine.specs.CodeLine.{Code, size}
use Rattle.machine.specs.Machine.{used}
use Rattle.machine.specs.Decoding.{Buffers, lending}
use Rattle.machine.proofs.Ranges.{length-patch, part-patch, part-before, part-after, column-room}
use Rattle.channels.specs.Channels.{own_of, together}
use Rattle.channels.specs.inner.Rounds.{patch_at, RoomFor}
use Rattle.channels.proofs.Parts.{Exact}

-- a part of width w at one place, where another is patched
patched : (l s : List ℕ) (c d w n : ℕ) → n * w ≤ length l → c < n → d < n → d ≢ c → length s ≡ w → part (patch l (c * w) w s) (d * w) w ≡ part l (d * w) w
patched l s c d w n h i j k e =
    let r : c * w + w ≤ length l = omega (arith, column-room c n w i) in
    elim (dec_lt d c) [
      | yes g ↦ part-before l s (c * w) w r e (d * w) w (column-room d c w g)
      | no g ↦ part-after l s (c * w) w r e (d * w) w (column-room c d w (omega arith))
    ]

-- what follows a patch is as it was
drop-patch : (l s : List ℕ) (a w k : ℕ) → a + w ≤ length l → length s ≡ w → a + w ≤ k → drop k (patch l a w s) ≡ drop k l
drop-patch l s a w k fits full h = two ∙ sym three
  where
    e : k ≡ a + (w + (k - (a + w)))
    e = omega arith

    front : length (take a l) ≡ a
    front = length-take-le a l (omega arith)

    two : drop k (patch l a w s) ≡ drop (k - (a + w)) (drop w (drop a l))
    two =
        ap (λ i. drop i (patch l a w s)) (e ∙ ap (λ i. i + (w + (k - (a + w)))) (sym front))
        ∙ drop-append-add (take a l) (s ++ drop w (drop a l)) (w + (k - (a + w)))
        ∙ ap (λ i. drop (i + (k - (a + w))) (s ++ drop w (drop a l))) (sym full)
        ∙ drop-append-add s (drop w (drop a l)) (k - (a + w))

    three : drop k l ≡ drop (k - (a + w)) (drop w (drop a l))
    three = ap (λ i. drop i l) e ∙ sym (drop-drop (w + (k - (a + w))) a l) ∙ sym (drop-drop (k - (a + w)) w (drop a l))

-- n parts end to end are the front of a list
front-blocks : (l : List ℕ) (w n : ℕ) → blocks (λ c. part l (c * w) w) n ≡ take (n * w) l
front-blocks l w zero = ap (λ k. take k l) (sym (zero-mul w))
front-blocks l w (suc n) = ap (λ x. x ++ part l (n * w) w) (front-blocks l w n) ∙ sym (take-add (n * w) w l) ∙ ap (λ k. take k l) (sym (suc-mul n w))

-- a list by its n parts and what follows them
by_parts : (l l₀ : List ℕ) (g : ℕ → List ℕ) (w n : ℕ) → ((c : ℕ) → c < n → part l (c * w) w ≡ g c) → drop (n * w) l ≡ drop (n * w) l₀ → l ≡ blocks g n ++ drop (n * w) l₀
by_parts l l₀ g w n h e =
    sym (take-append-drop (n * w) l)
    ∙ ap₂ (λ x y. x ++ y) (sym (front-blocks l w n) ∙ blocks_ext (λ c. part l (c * w) w) g n h) e

-- a part put back where it stood
pub patch-same : (l : List ℕ) (a n : ℕ) → patch l a n (part l a n) ≡ l
patch-same l a n = ap (λ r. take a l ++ r) (take-append-drop n (drop a l)) ∙ take-append-drop a l

-- what follows the parts of n channels is as it was
pub record Beyond (C : Code) (n : ℕ) (b₀ b : Buffers) : Type 0 where
  pub symbols : drop (n * C.columns) b.symbols ≡ drop (n * C.columns) b₀.symbols
  pub costs : drop (n * (C.columns * size C)) b.costs ≡ drop (n * (C.columns * size C)) b₀.costs
  pub store : drop (n * used C) b.store ≡ drop (n * used C) b₀.store
  pub margins : drop (n * C.columns) b.margins ≡ drop (n * C.columns) b₀.margins

pub all_parts : (C : Code) (n : ℕ) (b₀ b : Buffers) (own : ℕ → Buffers) → Beyond C n b₀ b → ((c : ℕ) → c < n → own_of C b c ≡ own c) → b ≡ together C n own b₀
all_parts C n b₀ b own B h =
    four (by_parts b.symbols b₀.symbols (λ c. (own c).symbols) C.columns n (λ c i. ap (λ (o : Buffers). o.symbols) (h c i)) B.symbols)
    (by_parts b.costs b₀.costs (λ c. (own c).costs) (C.columns * size C) n (λ c i. ap (λ (o : Buffers). o.costs) (h c i)) B.costs)
    (by_parts b.store b₀.store (λ c. (own c).store) (used C) n (λ c i. ap (λ (o : Buffers). o.store) (h c i)) B.store)
    (by_parts b.margins b₀.margins (λ c. (own c).margins) C.columns n (λ c i. ap (λ (o : Buffers). o.margins) (h c i)) B.margins)
  where
    four : {y y' c c' s s' v v' : List ℕ} → y ≡ y' → c ≡ c' → s ≡ s' → v ≡ v' → lending y c s v ≡ lending y' c' s' v'
    four h i j k = rw (h, i, j, k)

module _ (C : Code) (n : ℕ) (b o : Buffers) (W : RoomFor C n b) (E : Exact C o) (c : ℕ) (h : c < n) where
  fits : (l : List ℕ) (w : ℕ) → n * w ≤ length l → c * w + w ≤ length l
  fits l w g = omega (arith, column-room c n w h)

  in_symbols : c * C.columns + C.columns ≤ length b.symbols
  in_symbols = fits b.symbols C.columns W.for_symbols

  in_costs : c * (C.columns * size C) + C.columns * size C ≤ length b.costs
  in_costs = fits b.costs (C.columns * size C) W.for_costs

  in-store : c * used C + used C ≤ length b.store
  in-store = fits b.store (used C) W.for_store

  in-margins : c * C.columns + C.columns ≤ length b.margins
  in-margins = fits b.margins C.columns W.for_margins

  pub patch-room : RoomFor C n (patch_at C c b o)
  patch-room =
      record {
        for_symbols = rw (length-patch b.symbols o.symbols (c * C.columns) C.columns in_symbols E.symbols) W.for_symbols;
        for_costs = rw (length-patch b.costs o.costs (c * (C.columns * size C)) (C.columns * size C) in_costs E.costs) W.for_costs;
        for_store = rw (length-patch b.store o.store (c * used C) (used C) in-store E.store) W.for_store;
        for_margins = rw (length-patch b.margins o.margins (c * C.columns) C.columns in-margins E.margins) W.for_margins;
      }

  pub patch_own : own_of C (patch_at C c b o) c ≡ o
  patch_own =
      rw (
        part-patch b.symbols o.symbols (c * C.columns) C.columns in_symbols E.symbols,
        part-patch b.costs o.costs (c * (C.columns * size C)) (C.columns * size C) in_costs E.costs,
        part-patch b.store o.store (c * used C) (used C) in-store E.store,
        part-patch b.margins o.margins (c * C.columns) C.columns in-margins E.margins,
      )

  pub patch-other : (d : ℕ) → d < n → d ≢ c → own_of C (patch_at C c b o) d ≡ own_of C b d
  patch-other d i k =
      rw (
        patched b.symbols o.symbols c d C.columns n W.for_symbols h i k E.symbols,
        patched b.costs o.costs c d (C.columns * size C) n W.for_costs h i k E.costs,
        patched b.store o.store c d (used C) n W.for_store h i k E.store,
        patched b.margins o.margins c d C.columns n W.for_margins h i k E.margins,
      )

  pub patch_beyond : (b₀ : Buffers) → Beyond C n b₀ b → Beyond C n b₀ (patch_at C c b o)
  patch_beyond b₀ B =
      record {
        symbols = drop-patch b.symbols o.symbols (c * C.columns) C.columns (n * C.columns) in_symbols E.symbols (column-room c n C.columns h) ∙ B.symbols;
        costs = drop-patch b.costs o.costs (c * (C.columns * size C)) (C.columns * size C) (n * (C.columns * size C)) in_costs E.costs (column-room c n (C.columns * size C) h) ∙ B.costs;
        store = drop-patch b.store o.store (c * used C) (used C) (n * used C) in-store E.store (column-room c n (used C) h) ∙ B.store;
        margins = drop-patch b.margins o.margins (c * C.columns) C.columns (n * C.columns) in-margins E.margins (column-room c n C.columns h) ∙ B.margins;
      }
