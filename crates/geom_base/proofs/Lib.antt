mod RectLemmas
mod DrawnLemmas
