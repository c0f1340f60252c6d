mod LinearLemmas
