-- One call after another keeps the loans and their lengths.
use mathlib.Core.Path.{◌∙◌, refl}
use Rattle.layered.specs.declared.buffers.DecodeBuffers.{DecodeBuffers}
use Rattle.layered.specs.declared.buffers.Scratch.{Scratch}
use Rattle.layered.specs.inner.Buffers.{SameLoans, SameScratch}

pub own-loans : {a : DecodeBuffers} → SameLoans a a
own-loans = record { symbols = refl; costs = refl; store = refl; margins = refl; symbols_length = refl; costs_length = refl; store_length = refl; margins_length = refl }

pub same-loans : {a b c : DecodeBuffers} → SameLoans a b → SameLoans b c → SameLoans a c
same-loans A B =
    record {
      symbols = B.symbols ∙ A.symbols;
      costs = B.costs ∙ A.costs;
      store = B.store ∙ A.store;
      margins = B.margins ∙ A.margins;
      symbols_length = B.symbols_length ∙ A.symbols_length;
      costs_length = B.costs_length ∙ A.costs_length;
      store_length = B.store_length ∙ A.store_length;
      margins_length = B.margins_length ∙ A.margins_length;
    }

pub own-scratch : {a : Scratch} → SameScratch a a
own-scratch = record { arrived = refl; sent = refl; arrived_length = refl; sent_length = refl }

pub same-scratch : {a b c : Scratch} → SameScratch a b → SameScratch b c → SameScratch a c
same-scratch A B =
    record { arrived = B.arrived ∙ A.arrived; sent = B.sent ∙ A.sent; arrived_length = B.arrived_length ∙ A.arrived_length; sent_length = B.sent_length ∙ A.sent_length }
